use Rattle.std.proofs.Common.{◌≡◌, ◌∙◌, ◌++◌, ◌∷◌, [], length, map, set, refl, ap, sym, arith}
use Rattle.std.specs.Prelude.{Some}
use Rattle.std.proofs.lemmas.List.{length-map}
use Rattle.std.proofs.lemmas.Option.{slice_get_read}
use Rattle.smv_meaning.specs.Instances.{list_of}
use Rattle.smv_meaning.proofs.Lists.{slice_get-map}
use Rattle.smv_graph.specs.Graph.{row_of}
use Rattle.smv_graph.proofs.Arrows.{one_added, map_written}
use Rattle.smv_graph.proofs.reversed.add_arrow.Goals as goal

pub returns : goal.returns
returns c =
    let rows = c.args.rows.now.items in
    let from = c.args.from in
    let there = slice_get_read rows (length rows) from c.index_mut.result.now refl c.requires c.index_mut.ensures.value in
    let row : row_of (map (λ r. r.items) rows) from ≡ c.index_mut.result.now.items = ap (list_of (λ r. r)) (slice_get-map (λ r. r.items) rows from c.index_mut.result.now there) in
    one_added (map (λ r. r.items) rows) from c.args.to (map (λ r. r.items) (set rows from c.push.new.self)) (let s = length-map rows (λ r. r.items) in omega (arith, s, c.requires))
    (map_written (λ r. r.items) rows from c.push.new.self
    ∙ ap (set (map (λ r. r.items) rows) from) (c.in_ok-push.ensures.items ∙ ap (λ r. r ++ Some c.args.to ∷ []) (sym row)))
