-- A line that is needed is fresh.
use Rattle.std.proofs.Common.{◌≢◌, ◌⊎◌, inl, inr, List, [], ◌∷◌, sym, refl, subst, ◌∙◌}
use Rattle.std.specs.List.{AllByRecursion}
use Rattle.sat_log.specs.Literal.{Literal, negated}
use Rattle.sat_log.specs.Clause.{Among}
use Rattle.sat_log.specs.Learned.{Subsumes, IsFresh, IsNeeded, IsNeededAt, IsTrueUnder, HasTwoUnset}

within_among : (c d : List Literal) (l : Literal) → Subsumes c d → Among c l → Among d l
within_among [] d l h m = absurd m
within_among (x ∷ c) d l h (inl e) = subst (Among d) e h.0
within_among (x ∷ c) d l h (inr m) = within_among c d l h.1 m

-- a literal of the line that is unset is the asserted one
unset_not_other : (before : List (List Literal)) (c : List Literal) (n : IsNeededAt before c) (l : Literal) → Among c l → ¬ Among n.set (negated l) → ¬ (l ≢ n.asserted)
unset_not_other before c n l stands unset other = unset (n.others_false l stands other)

not_true_within : (before : List (List Literal)) (c : List Literal) (n : IsNeededAt before c) (earlier : List Literal) → IsTrueUnder n.set earlier → ¬ Subsumes earlier c
not_true_within before c n earlier t within =
    let stands : Among c t.literal = within_among earlier c t.literal within t.stands in
    let only : ¬ (t.literal ≢ n.asserted) = (λ other. n.consistent t.literal t.is_set (n.others_false t.literal stands other)) in
    only (λ same. n.unset.0 (subst (Among n.set) same t.is_set))

not_open_within : (before : List (List Literal)) (c : List Literal) (n : IsNeededAt before c) (earlier : List Literal) → HasTwoUnset n.set earlier → ¬ Subsumes earlier c
not_open_within before c n earlier t within =
    let first = unset_not_other before c n t.first (within_among earlier c t.first within t.first_stands) t.first_unset.1 in
    let second = unset_not_other before c n t.second (within_among earlier c t.second within t.second_stands) t.second_unset.1 in
    first (λ same. second (λ same'. t.apart (same ∙ sym same')))

fresh_at : (all before : List (List Literal)) (c : List Literal) (n : IsNeededAt all c) → AllByRecursion (λ earlier. IsTrueUnder n.set earlier ⊎ HasTwoUnset n.set earlier) before → IsFresh before c
fresh_at all [] c n h = tt
fresh_at all (earlier ∷ before) c n (inl t, more) = (not_true_within all c n earlier t, fresh_at all before c n more)
fresh_at all (earlier ∷ before) c n (inr t, more) = (not_open_within all c n earlier t, fresh_at all before c n more)

nonempty_not_within : (earlier : List Literal) → earlier ≢ [] → ¬ Subsumes earlier []
nonempty_not_within [] ne within = ne refl
nonempty_not_within (l ∷ c) ne within = within.0

fresh_empty : (before : List (List Literal)) → AllByRecursion (λ earlier. earlier ≢ []) before → IsFresh before []
fresh_empty [] h = tt
fresh_empty (earlier ∷ before) h = (nonempty_not_within earlier h.0, fresh_empty before h.1)

pub needed_fresh : (before : List (List Literal)) (c : List Literal) → IsNeeded before c → IsFresh before c
needed_fresh before [] h = fresh_empty before h
needed_fresh before (l ∷ c) h = fresh_at before before (l ∷ c) h h.no_unit
