use Rattle.std.proofs.Common.{◌≡◌, List, ◌∷◌, [], reverse, ap, subst, ◌∙◌}
use Rattle.std.proofs.lemmas.List.{reverse-append}
use Rattle.std.specs.Prelude.{vec_capacity}
use Rattle.sat_log.specs.Literal.{Literal}
use Rattle.sat_trail.specs.Trail.{KeepsTrail}
use Rattle.sat_trail.proofs.Tables.{tables_pop}
use Rattle.sat_trail.proofs.trail.Trail.pop.Goals as goal

pub invariant_of-self : goal.invariant_of-self
invariant_of-self c =
    let t = c.self.inside in
    let l = c.in-Some.literal in
    let items : reverse t.trail.items ≡ l ∷ reverse c.pop.new.self.items = ap reverse c.in-Some.ensures.items ∙ reverse-append c.pop.new.self.items (l ∷ []) in
    let keeps : KeepsTrail t.variables t.truths.items t.levels.items t.reasons.items t.positions.items (l ∷ reverse c.pop.new.self.items) (vec_capacity t.trail) = subst (λ (s : List Literal). KeepsTrail t.variables t.truths.items t.levels.items t.reasons.items t.positions.items s (vec_capacity t.trail)) items c.self.invariant in
    rw (c.pop.ensures.capacity, c.index.ensures.value) (tables_pop t.variables t.truths.items t.levels.items t.reasons.items t.positions.items (reverse c.pop.new.self.items) (vec_capacity t.trail) l keeps)
