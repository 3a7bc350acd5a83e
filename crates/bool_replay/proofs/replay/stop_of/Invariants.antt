use Rattle.std.proofs.Common.{◌≡◌, ◌+◌, drop, map}
use Rattle.smv_tree.specs.Models.{part_of}
use Rattle.bool_replay.specs.Evaluation.{stop_behind}
use Rattle.bool_replay.proofs.replay.stop_of.Given as goal

-- the first stop is behind the state that was reached
abbrev pub invariant-loop-state : goal.invariant-loop-state
invariant-loop-state l = (l.number ≡ l.state-index + 1)
    × (stop_behind l.names (map part_of l.items) l.number l.now (map (λ s. s.items) (drop l.state-index l.others)) ≡ stop_behind l.names (map part_of l.items) 1 l.initial.now (map (λ s. s.items) l.others))
