use Rattle.std.proofs.Common.{sym, subst}
use Rattle.smv_tree.specs.Models.{bodies}
use Rattle.smv_graph.specs.Graph.{IsClosed}
use Rattle.smv_graph.proofs.Graphs.{graph_closed}
use Rattle.smv_graph.proofs.graph.Graph.of.Goals as goal

pub invariant_of-result : goal.invariant_of-result
invariant_of-result c = subst IsClosed (sym c.in_ok-rows.ensures) (graph_closed (bodies c.args.p.now))
