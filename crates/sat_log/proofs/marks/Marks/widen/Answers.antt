use Rattle.std.proofs.Common.{◌≡◌, ◌≤◌, ◌*◌, [], length, arith, ap, ◌∙◌}
use Rattle.sat_log.specs.Marked.{Marked, places}
use Rattle.sat_log.proofs.MarkLemmas.{stretched}
use Rattle.sat_log.proofs.marks.Marks.widen.Goals as goal

pub invariant_of-self : goal.invariant_of-self
invariant_of-self c =
    let m = c.self.inside in
    let none : m.trail.items ≡ [] = ap (λ (v : Marked). v.set) c.self.view_is ∙ c.requires.clear in
    let size : 2 * places m.room m.far.keys ≤ length m.truths.items = c.self.invariant.size in
    stretched m.room m.far.keys _ _ _ (c.stretch.ensures.trail ∙ none) (omega (arith, c.stretch.ensures.longer)) c.stretch.ensures.clear c.stretch.ensures.spare

pub invariant_of-self-2 : goal.invariant_of-self-2
invariant_of-self-2 c =
    let m = c.self.inside in
    let none : m.trail.items ≡ [] = ap (λ (v : Marked). v.set) c.self.view_is ∙ c.requires.clear in
    stretched c.args.room m.far.keys _ _ _ (c.stretch.ensures.trail ∙ none) (omega (arith, c.in_ok-stretch.ensures.ok, c.len.ensures.len)) c.stretch.ensures.clear c.stretch.ensures.spare
