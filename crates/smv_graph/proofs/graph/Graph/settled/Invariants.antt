use Rattle.std.proofs.Common.{ℕ}
use Rattle.std.specs.Prelude.{Contains}
use Rattle.smv_meaning.specs.Walks.{IsOnCycle}
use Rattle.smv_graph.specs.Graph.{Leads}
use Rattle.smv_graph.proofs.graph.Graph.settled.Given as goal

abbrev pub invariant-loop : goal.invariant-loop
invariant-loop l = (a : ℕ) → Contains l.settled.keys a → IsOnCycle (Leads l.self) a → ⊥
