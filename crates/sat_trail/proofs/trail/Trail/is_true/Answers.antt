use Rattle.std.proofs.Common.{◌≡◌, ◌<◌, ◌≤◌, false, List, length, reverse, ap, sym, subst, ◌∙◌, arith}
use Rattle.std.proofs.lemmas.List.{get_or_default}
use Rattle.sat_log.specs.Literal.{Literal}
use Rattle.sat_log.specs.Packing.{packed}
use Rattle.sat_log.specs.Clause.{Among}
use Rattle.sat_log.specs.Marked.{is_numbered}
use Rattle.sat_log.proofs.Decided.{among_from_set, set_from_among}
use Rattle.sat_trail.specs.Trail.{Trailed, literals}
use Rattle.sat_trail.proofs.Tables.{place_within, literals_of}
use Rattle.sat_trail.proofs.trail.Trail.is_true.Goals as goal

pub returns : goal.returns
returns c =
    let t = c.self.inside in
    let l = c.args.literal in
    let exists = subst (λ (v : Trailed). l.var ≤ v.variables) (sym c.self.view_is) c.requires in
    let place = place_within t.variables l exists in
    let size = c.self.invariant.truths_size in
    let inside : c.index.result < length t.truths.items = omega (arith, c.index.ensures.value) in
    let same : c.index-2.result.now ≡ is_numbered (reverse t.trail.items) (packed l) =
    c.index-2.ensures ∙ get_or_default t.truths.items c.index.result c.index-2.result.now false inside ∙ c.self.invariant.values c.index.result inside ∙ ap (is_numbered (reverse t.trail.items)) c.index.ensures.value in
    let lits : literals c.args.self.now.entries ≡ reverse t.trail.items =
    ap (λ (v : Trailed). literals v.entries) (sym c.self.view_is) ∙ literals_of t.levels.items t.reasons.items (reverse t.trail.items) in (
      (λ e. subst (λ (s : List Literal). Among s l) (sym lits) (among_from_set (reverse t.trail.items) l (sym same ∙ e))),
      (λ m. same ∙ set_from_among (reverse t.trail.items) l (subst (λ (s : List Literal). Among s l) lits m)),
    )
