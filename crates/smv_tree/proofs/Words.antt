-- Words whose highest bit is clear.
use Rattle.std.specs.Prelude.{◌≡◌, ◌⊎◌, ◌<◌, ◌≤◌, ◌+◌, ◌*◌, ◌/◌, ◌^◌, ℕ, false, pos}
use Rattle.std.proofs.Common.{arith, inl, inr, subst}
use Rattle.std.proofs.Math.Nat.{lt-div-mul-add, div-eq_of_lt}
use Rattle.std.proofs.lemmas.Nat.{pow_pos}
use Rattle.std.proofs.lemmas.Bool.Decides.{nat_tests}
use Rattle.std.proofs.Math.Pow.{pow_mono}
use Rattle.std.specs.Int.{is_negative}
use Rattle.smv_tree.specs.Word.{Word, is_high, word_number}

-- bits that fit 128 leave the highest of a wider word clear
wide_is_low : (w : Word) → w.bits < 2 ^ 128 → w.bits < 2 ^ w.width → (w.width ≡ 0) ⊎ (128 < w.width) → is_high w ≡ false
wide_is_low w fits below (inl none) = grind (arith, nat_tests)
wide_is_low w fits below (inr wide) = grind (arith, nat_tests, pow_mono {i = 129} {j = w.width} wide)

-- so the number of the word is that of its bits
pub wide_is_natural : (w : Word) → w.bits < 2 ^ 128 → w.bits < 2 ^ w.width → (w.width ≡ 0) ⊎ (128 < w.width) → word_number w ≡ pos w.bits
wide_is_natural w fits below wide = grind (arith, nat_tests, wide_is_low w fits below wide)

-- no natural number is below zero
pub natural_is_not_negative : (n : ℕ) → false ≡ is_negative (pos n)
natural_is_not_negative n = grind (arith, nat_tests)

-- bits are below two to the width exactly where nothing is left of them behind it
pub fits_shifted : (bits width : ℕ) → bits / 2 ^ width ≡ 0 → bits < 2 ^ width
fits_shifted bits width e =
    let h : bits < bits / 2 ^ width * 2 ^ width + 2 ^ width = lt-div-mul-add (pow_pos width) in
    let g : bits < 0 * 2 ^ width + 2 ^ width = subst (λ q. bits < q * 2 ^ width + 2 ^ width) e h in
    omega arith

pub shifted_fits : (bits width : ℕ) → bits < 2 ^ width → bits / 2 ^ width ≡ 0
shifted_fits bits width l = div-eq_of_lt l

-- bits that fit 128 fit each greater width
pub fits_wide : (bits width : ℕ) → bits < 2 ^ 128 → 128 ≤ width → bits < 2 ^ width
fits_wide bits width fits wide = let h : 2 ^ 128 ≤ 2 ^ width = pow_mono {i = 128} {j = width} wide in omega arith
