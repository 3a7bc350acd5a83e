-- Literals whose variables are those of no literal that is set.
use Rattle.std.proofs.Common.{◌≡◌, ◌≢◌, ◌∙◌, Bool, true, false, refl, ◌⊎◌, inl, inr, List, [], ◌∷◌, length, ap, ℕ, ◌<◌, zero, suc, get_or, sym, arith}
use Rattle.std.specs.List.{AllByRecursion}
use Rattle.sat_log.specs.Literal.{Literal, negated}
use Rattle.sat_log.specs.Clause.{Among, IsUnset}
use Rattle.sat_log.specs.Checking.{is_set}
use Rattle.sat_log.proofs.Decided.{among_from_set, set_from_among}
use Rattle.sat_log.proofs.LiteralLemmas.{same_variable}

-- an unset literal's variable is that of no literal that is set
pub unset_apart : (set : List Literal) (l : Literal) → IsUnset set l → AllByRecursion (λ k. k.var ≢ l.var) set
unset_apart [] l u = tt
unset_apart (k ∷ set) l u =
    ((λ v. by_sign (same_variable k l v)), unset_apart set l ((λ m. u.0 (inr m)), (λ m. u.1 (inr m))))
  where
    by_sign : (k ≡ l) ⊎ (k ≡ negated l) → ⊥
    by_sign (inl e) = u.0 (inl e)
    by_sign (inr e) = u.1 (inl e)

-- a literal whose variable is that of no literal that is set is not set
pub apart_not_among : (set : List Literal) (l : Literal) → AllByRecursion (λ k. k.var ≢ l.var) set → ¬ Among set l
apart_not_among [] l h m = m
apart_not_among (k ∷ set) l h (inl e) = h.0 (ap (λ (x : Literal). x.var) e)
apart_not_among (k ∷ set) l h (inr m) = apart_not_among set l h.1 m

-- what is read at a place stands in the list
pub stands_at : (c : List Literal) (i : ℕ) (x : Literal) → i < length c → x ≡ get_or c i x → Among c x
stands_at [] i x inside here = absurd (omega arith)
stands_at (y ∷ c) zero x inside here = inl (sym here)
stands_at (y ∷ c) (suc i) x inside here = inr (stands_at c i x (omega arith) here)

-- a literal is set, or it isn't
pub set_or_not : (set : List Literal) (l : Literal) → Among set l ⊎ (¬ Among set l)
set_or_not set l = by (is_set set l) refl
  where
    by : (b : Bool) → is_set set l ≡ b → Among set l ⊎ (¬ Among set l)
    by true e = inl (among_from_set set l e)
    by false e = inr (λ m. let same : true ≡ false = sym (set_from_among set l m) ∙ e in absurd cc)
