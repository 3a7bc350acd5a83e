-- What is kept of a judgement is made of what is kept of its parts.
use Rattle.std.proofs.Common.{◌≡◌, refl, ap, sym, ◌∙◌}
use Rattle.std.specs.Prelude.{Ok, Err}
use Rattle.type_fault.proofs.Firsts.{earliest_both}
use Rattle.smv_typing.specs.Judging.{Judgement, both, over}
use Rattle.smv_typing.specs.Firsts.{Kept, firsts}
use Rattle.smv_typing.specs.Kept.{kept_both, kept_over}

over_kept : {A B : Type 0} (f : A → Judgement B) (x : Judgement A) → kept_over f (firsts x) ≡ firsts (over f x)
unfolding over kept_over
over_kept f (Ok a) = refl
over_kept f (Err fs) = refl

both_kept : {A B C : Type 0} (f : A → B → C) (x : Judgement A) (y : Judgement B) → kept_both f (firsts x) (firsts y) ≡ firsts (both f x y)
unfolding both kept_both
both_kept f (Ok a) (Ok b) = refl
both_kept f (Ok a) (Err gs) = refl
both_kept f (Err fs) (Ok b) = refl
both_kept f (Err fs) (Err gs) = ap Err (sym (earliest_both fs gs))

-- a node over parts of which this is kept
pub over_firsts : {A B : Type 0} (f : A → Judgement B) (x : Judgement A) {j : Kept A} {r : Kept B} → j ≡ firsts x → r ≡ kept_over f j → r ≡ firsts (over f x)
over_firsts f x h e = e ∙ (ap (kept_over f) h ∙ over_kept f x)

-- two parts of which these are kept
pub both_firsts : {A B C : Type 0} (f : A → B → C) (x : Judgement A) (y : Judgement B) {j : Kept A} {k : Kept B} {r : Kept C} → j ≡ firsts x → k ≡ firsts y → r ≡ kept_both f j k → r ≡ firsts (both f x y)
both_firsts f x y {j} {k} h i e = e ∙ (ap (λ u. kept_both f u k) h ∙ (ap (kept_both f (firsts x)) i ∙ both_kept f x y))
