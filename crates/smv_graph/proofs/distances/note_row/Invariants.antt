use Rattle.std.proofs.Common.{take}
use Rattle.smv_graph.specs.Distances.{AreNoted}
use Rattle.smv_graph.proofs.distances.note_row.Given as goal

abbrev pub invariant-loop-target : goal.invariant-loop-target
invariant-loop-target l = AreNoted l.initial.distances.entries (take l.target-index l.row) l.distance l.distances.entries
