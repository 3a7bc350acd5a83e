use Rattle.std.proofs.Common.{◌≡◌, map, take}
use Rattle.smv_tree.specs.Models.{body_of}
use Rattle.smv_graph.specs.Graph.{target_in}
use Rattle.smv_graph.proofs.graph.rows_by.Given as goal

abbrev pub invariant-loop-one : goal.invariant-loop-one
invariant-loop-one l = map (λ r. r.items) l.rows.items ≡ map (λ b. map (target_in l.numbers) b.parts) (map body_of (take l.one-index l.one-items))
