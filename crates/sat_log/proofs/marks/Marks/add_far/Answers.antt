use Rattle.std.proofs.Common.{◌≡◌, ◌≤◌, ◌<◌, ◌*◌, [], length, eqb, arith, ap, sym, subst, ◌∙◌}
use Rattle.indexmap.specs.IndexSet.{insert_key}
use Rattle.sat_log.specs.Marked.{Marked, places}
use Rattle.sat_log.proofs.MarkLemmas.{stretched, inserted_size, inserted_has_place}
use Rattle.sat_log.proofs.marks.Marks.add_far.Goals as goal

pub invariant_of-self : goal.invariant_of-self
invariant_of-self c =
    let m = c.self.inside in
    let none : m.trail.items ≡ [] = ap (λ (v : Marked). v.set) c.self.view_is ∙ c.requires.clear in
    let size : 2 * places m.room m.far.keys ≤ length m.truths.items = c.self.invariant.size in
    stretched m.room m.far.keys _ _ _ (c.stretch.ensures.trail ∙ none) (omega (arith, c.stretch.ensures.longer)) c.stretch.ensures.clear c.stretch.ensures.spare

pub invariant_of-self-in_default : goal.invariant_of-self-in_default
invariant_of-self-in_default c =
    let m = c.self.inside in
    let none : m.trail.items ≡ [] = ap (λ (v : Marked). v.set) c.self.view_is ∙ c.requires.clear in
    let size : 2 * places m.room m.far.keys ≤ length m.truths.items = c.self.invariant.size in
    rw c.in_default.ensures.err (stretched m.room m.far.keys _ _ _ (c.stretch.ensures.trail ∙ none) (omega (arith, c.stretch.ensures.longer)) c.stretch.ensures.clear c.stretch.ensures.spare)

pub invariant_of-self-2 : goal.invariant_of-self-2
invariant_of-self-2 c =
    let m = c.self.inside in
    let none : m.trail.items ≡ [] = ap (λ (v : Marked). v.set) c.self.view_is ∙ c.requires.clear in
    rw c.in-Ok.ensures.keys (stretched m.room (insert_key eqb m.far.keys c.args.variable) _ _ _ (c.stretch.ensures.trail ∙ none) (omega (arith, inserted_size m.far.keys c.args.variable, c.in_ok-stretch.ensures.ok, c.len.ensures.len)) c.stretch.ensures.clear c.stretch.ensures.spare)

pub returns-clause-ok : goal.returns-clause-ok
returns-clause-ok c =
    let past = subst (λ (v : Marked). v.room < c.args.variable) (sym c.self.view_is) c.requires.past in
    rw c.in-Ok.ensures.keys (inserted_has_place c.self.inside.room c.self.inside.far.keys c.args.variable past)
