use Rattle.std.proofs.Common.{subst}
use Rattle.std.specs.Prelude.{Some}
use Rattle.smv_graph.specs.Choices.{IsChosen}
use Rattle.smv_graph.proofs.graph.Graph.next_step.Goals as goal

pub returns : goal.returns
returns c = subst (λ r. IsChosen c.args.order c.args.distances.now.entries r c.args.distance (Some c.in-Some.next)) c.row.ensures c.in-Some.ensures
