use Rattle.smv_graph.specs.Graph.{Leads}
use Rattle.smv_graph.specs.Choices.{GoesBefore}
use Rattle.smv_graph.proofs.FirstWalks.{IsOnTheWay}
use Rattle.smv_graph.proofs.graph.Graph.walk_back.Given as goal

abbrev pub invariant-loop-left : goal.invariant-loop-left
invariant-loop-left l = IsOnTheWay (Leads l.self) (GoesBefore l.order l.self) l.start l.count l.between.items l.here l.left

abbrev pub decreases-loop-left : goal.decreases-loop-left
decreases-loop-left l = l.left
