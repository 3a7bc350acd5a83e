use Rattle.std.proofs.Common.{◌≡◌, ◌≤◌, ◌<◌, ◌*◌, false, length, arith, ap, ◌∙◌, sym, subst}
use Rattle.std.specs.Prelude.{vec_capacity}
use Rattle.sat_log.specs.Packing.{packed}
use Rattle.sat_log.specs.Marked.{Marked, HasPlace, placed, places, is_placed, is_numbered}
use Rattle.sat_log.proofs.MarkLemmas.{number_within, placed_set, spare_left, agrees_set}
use Rattle.sat_log.proofs.marks.Marks.set.Goals as goal

pub push_reserved-requires : goal.push_reserved-requires
push_reserved-requires c =
    let m = c.self.inside in
    let room = subst (λ (v : Marked). HasPlace v.room v.far c.args.literal.var) (sym c.self.view_is) c.requires.room in
    let unset = subst (λ (v : Marked). is_numbered v.set (packed c.args.literal) ≡ false) (sym c.self.view_is) c.requires.unset in
    let bound : packed (placed m.room m.far.keys c.args.literal) < 2 * places m.room m.far.keys = number_within m.room m.far.keys c.args.literal room in
    let size : 2 * places m.room m.far.keys ≤ length m.truths.items = c.self.invariant.size in
    let inside : c.index-index.result < length m.truths.items = omega (arith, c.index-index.ensures) in
    let spare : length m.trail.items < vec_capacity m.trail = spare_left m.room m.far.keys m.truths.items m.trail.items (vec_capacity m.trail) c.index-index.result c.self.invariant inside (c.self.invariant.values c.index-index.result inside ∙ ap (is_placed m.room m.far.keys m.trail.items) c.index-index.ensures ∙ placed_set m.room m.far.keys m.trail.items c.args.literal c.self.invariant.within room ∙ unset) in
    omega (arith, spare, m.trail.ok.0)

pub invariant_of-self : goal.invariant_of-self
invariant_of-self c =
    let m = c.self.inside in
    let room = subst (λ (v : Marked). HasPlace v.room v.far c.args.literal.var) (sym c.self.view_is) c.requires.room in
    let unset = subst (λ (v : Marked). is_numbered v.set (packed c.args.literal) ≡ false) (sym c.self.view_is) c.requires.unset in
    rw (c.push_reserved.ensures.items, c.push_reserved.ensures.capacity) (agrees_set m.room m.far.keys m.truths.items m.trail.items (vec_capacity m.trail) c.index-index.result c.args.literal (sym c.index-index.ensures) c.self.invariant room unset)
