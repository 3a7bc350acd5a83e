use Rattle.smv_graph.proofs.Queues.{has_tells}
use Rattle.smv_graph.proofs.cycle.has.Goals as goal

pub returns : goal.returns
returns c = has_tells c.args.reached.now.keys c.args.number c.contains.result c.contains.ensures
