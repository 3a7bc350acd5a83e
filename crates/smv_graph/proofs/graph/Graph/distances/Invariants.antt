use Rattle.std.proofs.Common.{◌+◌, ◌-◌, length}
use Rattle.smv_graph.proofs.Sweeps.{IsSweep}
use Rattle.smv_graph.proofs.graph.Graph.distances.Given as goal

abbrev pub invariant-loop-next : goal.invariant-loop-next
invariant-loop-next l = IsSweep l.self l.target l.next l.distances.entries

abbrev pub decreases-loop-next : goal.decreases-loop-next
decreases-loop-next l = length l.self + l.target + 1 - l.next
