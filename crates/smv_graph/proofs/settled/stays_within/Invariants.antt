use Rattle.std.proofs.Common.{ℕ, take}
use Rattle.std.specs.Prelude.{Contains, Some}
use Rattle.smv_graph.proofs.settled.stays_within.Given as goal

abbrev pub invariant-loop-target : goal.invariant-loop-target
invariant-loop-target l = (b : ℕ) → Contains (take l.target-index l.row) (Some b) → Contains l.some.keys b
