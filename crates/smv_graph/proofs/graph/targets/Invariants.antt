use Rattle.std.proofs.Common.{◌≡◌, map, take}
use Rattle.smv_tree.specs.Models.{part_of}
use Rattle.smv_graph.specs.Graph.{target_in}
use Rattle.smv_graph.proofs.graph.targets.Given as goal

abbrev pub invariant-loop-item : goal.invariant-loop-item
invariant-loop-item l = l.row.items ≡ map (target_in l.numbers) (map part_of (take l.item-index l.item-items))
