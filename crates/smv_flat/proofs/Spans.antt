-- The integers of a range, one by one.
use Rattle.std.proofs.Common.{◌≡◌, ℕ, ℤ, pos, negsuc, ◌+ℤ◌, ◌-ℤ◌, ◌<ℤ◌, ◌≤ℤ◌, ◌+◌, ◌^◌, ◌<◌, false, List, [], ◌∷◌, refl, sym, ap, ◌∙◌, ◌++◌, append_assoc, add-one, mod-eq_of_lt, arith}
use Rattle.std.specs.Int.{w64}
use Rattle.std.specs.Int.RustNames.{FitsSigned}
use Rattle.std.specs.Prelude.{int_lt}
use Rattle.std.proofs.lemmas.Int.{ints}
use Rattle.smv_tree.specs.declared.value.Value.{Value}
use Rattle.smv_tree.specs.declared.value.Value.TheVariants.{Int}
use Rattle.smv_meaning.specs.Operators.{wrap, span_from, span_length}

-- so far apart, two numbers leave their distance
apart : (z : ℤ) (d : ℕ) → z ≡ pos d → d < 2 ^ 65 → wrap 65 z ≡ d
apart z d e h = ap (wrap 65) e ∙ mod-eq_of_lt h

distance : (z : ℤ) → pos 0 ≤ℤ z → (d : ℕ) × (z ≡ pos d)
distance (pos d) h = (d, refl)
distance (negsuc d) h = absurd (omega (arith, ints, h))

not_below : (a b : ℤ) → a ≤ℤ b → int_lt b a ≡ false
not_below a b h = grind (arith, ints)

pub span_step : (n high : ℤ) → FitsSigned w64 n → FitsSigned w64 high → n <ℤ high
    → span_from n (span_length n high) ≡ Int n ∷ span_from (n +ℤ pos 1) (span_length (n +ℤ pos 1) high)
span_step n high fits small less =
    let found = distance (high -ℤ (n +ℤ pos 1)) (omega (arith, ints, less)) in
    let d = found.0 in
    let below : d + 1 < 2 ^ 65 = omega (arith, ints, found.1, fits, small) in
    let far : wrap 65 (high -ℤ n) ≡ d + 1 = apart (high -ℤ n) (d + 1) (omega (arith, ints, found.1)) below in
    let near : wrap 65 (high -ℤ (n +ℤ pos 1)) ≡ d = apart (high -ℤ (n +ℤ pos 1)) d found.1 (omega (arith, below)) in
    let first : int_lt high n ≡ false = not_below n high (omega (arith, ints, less)) in
    let later : int_lt high (n +ℤ pos 1) ≡ false = not_below (n +ℤ pos 1) high (omega (arith, ints, less)) in
    rw (first, later, far, near) (ap (span_from n) (add-one (d + 1)))

pub span_last : (high : ℤ) → span_from high (span_length high high) ≡ Int high ∷ []
span_last high =
    let none : wrap 65 (high -ℤ high) ≡ 0 = apart (high -ℤ high) 0 (omega (arith, ints)) (omega arith) in
    let same : int_lt high high ≡ false = not_below high high (omega (arith, ints)) in
    rw (same, none) refl

pub one_more : (n high : ℤ) (all more : List Value) → FitsSigned w64 n → FitsSigned w64 high → n <ℤ high → more ≡ all ++ Int n ∷ []
    → all ++ span_from n (span_length n high) ≡ more ++ span_from (n +ℤ pos 1) (span_length (n +ℤ pos 1) high)
one_more n high all more fits small less e =
    let rest = span_from (n +ℤ pos 1) (span_length (n +ℤ pos 1) high) in
    ap (λ vs. all ++ vs) (span_step n high fits small less) ∙ sym (append_assoc all (Int n ∷ []) rest) ∙ sym (ap (λ vs. vs ++ rest) e)

pub range_step : (l h n m : ℤ) (all more : List Value) → m ≡ n +ℤ pos 1
    → span_from l (span_length l h) ≡ all ++ span_from n (span_length n h)
    → all ++ span_from n (span_length n h) ≡ more ++ span_from (n +ℤ pos 1) (span_length (n +ℤ pos 1) h)
    → span_from l (span_length l h) ≡ more ++ span_from m (span_length m h)
range_step l h n m all more e before next = before ∙ next ∙ ap (λ z. more ++ span_from z (span_length z h)) (sym e)

same_end : (n h : ℤ) → n ≤ℤ h → int_lt n h ≡ false → n ≡ h
same_end n h most not = grind (arith, ints)

pub range_end : (l h n : ℤ) (all more : List Value) → n ≤ℤ h → int_lt n h ≡ false
    → span_from l (span_length l h) ≡ all ++ span_from n (span_length n h) → more ≡ all ++ Int h ∷ []
    → more ≡ span_from l (span_length l h)
range_end l h n all more most not before e =
    e ∙ ap (λ vs. all ++ vs) (sym (span_last h)) ∙ ap (λ z. all ++ span_from z (span_length z h)) (sym (same_end n h most not)) ∙ sym before
