use Rattle.std.proofs.Common.{take}
use Rattle.smv_graph.specs.Choices.{LeadsAt, IsLeast}
use Rattle.smv_graph.proofs.choice.least_at.Given as goal

abbrev pub invariant-loop-target : goal.invariant-loop-target
invariant-loop-target l = IsLeast (LeadsAt l.distances.entries (take l.target-index l.row) l.distance) l.least
