use Rattle.std.proofs.Common.{◌≡◌, drop, map}
use Rattle.smv_tree.specs.Models.{part_of}
use Rattle.bool_replay.specs.Evaluation.{first_step}
use Rattle.bool_replay.proofs.replay.first_step.Given as goal

-- the first cause is among the items from here on
abbrev pub invariant-loop-item : goal.invariant-loop-item
invariant-loop-item l = first_step l.names l.now l.later (map part_of (drop l.item-index l.items)) ≡ first_step l.names l.now l.later (map part_of l.items)
