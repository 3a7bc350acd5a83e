use Rattle.std.proofs.Common.{drop, map, nat_lt}
use Rattle.std.specs.Prelude.{Result}
use Rattle.outside.specs.declared.Failed.{Failed}
use Rattle.outside.specs.Told.{Output}
use Rattle.smv_tree.specs.Trees.{arms, expr_tree, trees}
use Rattle.smv_printing.specs.Printing.{branches, listed}
use Rattle.smv_print.specs.Written.{Prints, listed_from}
use Rattle.smv_grammar.specs.Branches.{arm_of}
use Rattle.smv_print.proofs.print.+print.Given as goal

-- what is written of the items that are left is written of all
abbrev pub invariant-put_list-loop-i : goal.invariant-put_list-loop-i
invariant-put_list-loop-i g l = (r : Result (Unit {0}) Failed) (new : Output) → Prints (listed_from (nat_lt 0 l.i) (trees (map expr_tree (drop l.i l.es)))) (g.S.Sink.told l.out) r new → Prints (listed (trees (map expr_tree l.es))) (g.S.Sink.told l.initial.out) r new

abbrev pub invariant-put_arms-loop-arm : goal.invariant-put_arms-loop-arm
invariant-put_arms-loop-arm g l = (r : Result (Unit {0}) Failed) (new : Output) → Prints (branches (arms (map arm_of (drop l.arm-index l.items)))) (g.S.Sink.told l.out) r new → Prints (branches (arms (map arm_of l.items))) (g.S.Sink.told l.initial.out) r new
