use Rattle.std.proofs.Common.{ℕ}
use Rattle.std.specs.Prelude.{Contains}
use Rattle.smv_meaning.specs.Walks.{IsOnCycle}
use Rattle.smv_graph.specs.Graph.{Leads}
use Rattle.smv_graph.proofs.graph.Graph.settle.Given as goal

abbrev pub invariant-loop-number : goal.invariant-loop-number
invariant-loop-number l = (a : ℕ) → Contains l.settled.keys a → IsOnCycle (Leads l.self) a → ⊥
