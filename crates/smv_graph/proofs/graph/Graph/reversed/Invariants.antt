use Rattle.std.proofs.Common.{map}
use Rattle.smv_graph.proofs.Arrows.{AreReversed}
use Rattle.smv_graph.proofs.graph.Graph.reversed.Given as goal

abbrev pub invariant-loop-number : goal.invariant-loop-number
invariant-loop-number l = AreReversed l.self l.number (map (λ r. r.items) l.rows.items)
