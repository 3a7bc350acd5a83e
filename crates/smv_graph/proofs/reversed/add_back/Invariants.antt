use Rattle.std.proofs.Common.{map, take}
use Rattle.smv_graph.specs.Arrows.{AreAdded, IsBack}
use Rattle.smv_graph.proofs.reversed.add_back.Given as goal

abbrev pub invariant-loop-target : goal.invariant-loop-target
invariant-loop-target l = AreAdded (map (λ r. r.items) l.initial.rows.items) (IsBack (take l.target-index l.row) l.number) (map (λ r. r.items) l.rows.items)
