use Rattle.std.proofs.Common.{ℕ, take}
use Rattle.smv_graph.specs.Choices.{LeadsAt, IsLeast}
use Rattle.smv_graph.proofs.choice.nearest.Given as goal

abbrev pub invariant-loop-target : goal.invariant-loop-target
invariant-loop-target l = IsLeast (λ d. (b : ℕ) × LeadsAt l.distances.entries (take l.target-index l.row) d b) l.least
