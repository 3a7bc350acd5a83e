use Rattle.std.proofs.Common.{◌≤◌, ◌<◌, ◌*◌, length, arith, sym, ap, ◌∙◌, false, subst}
use Rattle.std.proofs.lemmas.List.{get_or_default}
use Rattle.sat_log.specs.Packing.{packed}
use Rattle.sat_log.specs.Marked.{Marked, HasPlace, placed, places, is_placed, is_numbered}
use Rattle.sat_log.proofs.MarkLemmas.{number_within, placed_set}
use Rattle.sat_log.proofs.marks.Marks.is_set.Goals as goal

pub returns : goal.returns
returns c =
    let m = c.self.inside in
    let room = subst (λ (v : Marked). HasPlace v.room v.far c.args.literal.var) (sym c.self.view_is) c.requires in
    let bound : packed (placed m.room m.far.keys c.args.literal) < 2 * places m.room m.far.keys = number_within m.room m.far.keys c.args.literal room in
    let size : 2 * places m.room m.far.keys ≤ length m.truths.items = c.self.invariant.size in
    let inside : c.index.result < length m.truths.items = omega (arith, c.index.ensures) in
    c.index-2.ensures
    ∙ get_or_default m.truths.items c.index.result c.index-2.result.now false inside
    ∙ c.self.invariant.values c.index.result inside
    ∙ ap (is_placed m.room m.far.keys m.trail.items) c.index.ensures
    ∙ placed_set m.room m.far.keys m.trail.items c.args.literal c.self.invariant.within room
    ∙ ap (λ (v : Marked). is_numbered v.set (packed c.args.literal)) c.self.view_is
