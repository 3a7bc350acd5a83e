use Rattle.std.proofs.Common.{◌++◌, take}
use Rattle.outside.proofs.WriteLemmas.{HasWritten}
use Rattle.type_fault.specs.Texts.{behind}
use Rattle.type_fault.proofs.print.put_behind.Given as goal

-- the names so far are written
abbrev pub invariant-loop-name : goal.invariant-loop-name
invariant-loop-name g l = HasWritten (behind l.mark (take l.name-index l.names)) (g.S.Sink.told l.initial.out) (g.S.Sink.told l.out)
