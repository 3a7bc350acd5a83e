use Rattle.std.proofs.Common.{take}
use Rattle.smv_graph.specs.Queues.{IsAdded}
use Rattle.smv_graph.proofs.graph.add_row.Given as goal

abbrev pub invariant-loop-target : goal.invariant-loop-target
invariant-loop-target l = IsAdded l.initial.queue.keys (take l.target-index l.row) l.queue.keys
