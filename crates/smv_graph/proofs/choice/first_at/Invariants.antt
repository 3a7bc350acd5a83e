use Rattle.std.proofs.Common.{ℕ, take}
use Rattle.smv_graph.specs.Choices.{LeadsAt}
use Rattle.smv_graph.proofs.choice.first_at.Given as goal

abbrev pub invariant-loop-target : goal.invariant-loop-target
invariant-loop-target l = (b : ℕ) → LeadsAt l.distances.entries (take l.target-index l.row) l.distance b → ⊥
