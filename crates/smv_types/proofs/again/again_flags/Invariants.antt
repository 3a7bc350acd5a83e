use Rattle.std.proofs.Common.{map}
use Rattle.smv_tree.specs.Models.{part_of}
use Rattle.smv_types.proofs.Excluding.{Walked}
use Rattle.smv_types.proofs.again.again_flags.Given as goal

abbrev pub invariant-loop-number : goal.invariant-loop-number
invariant-loop-number l = Walked (map part_of l.item-items) l.number l.flags.items l.excluded
