use Rattle.std.proofs.Common.{drop}
use Rattle.std.specs.Prelude.{Result}
use Rattle.outside.specs.declared.Failed.{Failed}
use Rattle.outside.specs.Told.{Output}
use Rattle.smv_printing.specs.Printing.{dotted}
use Rattle.smv_print.specs.Written.{Prints}
use Rattle.smv_print.proofs.ink.put_dotted.Given as goal

-- what is written of the names that are left is written of all
abbrev pub invariant-loop-name : goal.invariant-loop-name
invariant-loop-name g l = (r : Result (Unit {0}) Failed) (new : Output) → Prints (dotted (drop l.name-index l.names)) (g.S.Sink.told l.out) r new → Prints (dotted l.names) (g.S.Sink.told l.initial.out) r new
