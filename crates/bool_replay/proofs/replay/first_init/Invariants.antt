use Rattle.std.proofs.Common.{◌≡◌, drop, map}
use Rattle.smv_tree.specs.Models.{part_of}
use Rattle.bool_replay.specs.Evaluation.{first_init}
use Rattle.bool_replay.proofs.replay.first_init.Given as goal

-- the first cause is among the items from here on
abbrev pub invariant-loop-item : goal.invariant-loop-item
invariant-loop-item l = first_init l.names l.state (map part_of (drop l.item-index l.items)) ≡ first_init l.names l.state (map part_of l.items)
