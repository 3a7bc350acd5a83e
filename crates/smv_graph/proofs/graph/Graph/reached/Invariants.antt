use Rattle.std.proofs.Common.{◌-◌, length}
use Rattle.smv_graph.specs.Queues.{IsQueue}
use Rattle.smv_graph.proofs.graph.Graph.reached.Given as goal

abbrev pub invariant-loop-next : goal.invariant-loop-next
invariant-loop-next l = IsQueue l.self l.start l.next l.queue.keys

abbrev pub decreases-loop-next : goal.decreases-loop-next
decreases-loop-next l = length l.self - l.next
