-- What is left of integers modulo powers of two.
use Rattle.std.proofs.Common.{◌≡◌, ℕ, ℤ, pos, negsuc, neg_ℤ, ◌+ℤ◌, ◌-ℤ◌, ◌*ℤ◌, ◌+◌, ◌*◌, ◌-◌, ◌^◌, ◌/◌, ◌%◌, ◌<◌, ◌≤◌, refl, sym, ap, ◌∙◌, subst, arith}
use Rattle.std.specs.Int.{w128, cast_signed, cast_unsigned, int_wrap}
use Rattle.std.proofs.lemmas.Int.{of_z-to_z, int_wrap-add_left, int_wrap-add_right, int_wrap-sub_right, int_wrap-mul_left, int_wrap-mul_right, wrapping_add-bits, wrapping_sub-bits, wrapping_mul-bits}
use Rattle.std.proofs.lemmas.Nat.{one_shl, pow_pos, pow-add, mod_below, mod-mul-add, mod-pow-add}
use Rattle.std.proofs.Math.Pow.{mod-mod-pow}
use Rattle.std.proofs.Math.Pow.{pow_mono}
use Rattle.std.proofs.lemmas.Nat.{one_shl, mul-add-lt}
use Rattle.std.proofs.Math.Nat.{mod-eq_of_lt, mul_assoc, mul-mod_left, div-eq_of_lt}
use Rattle.smv_tree.proofs.Words.{fits_wide}
use Rattle.std.specs.Prelude.{Bool, [], ◌∷◌, Some}
use Rattle.std.proofs.lemmas.Bool.Decides.{nat_tests}
use Rattle.smv_tree.specs.declared.value.Value.TheVariants.{Word as Bits}
use Rattle.smv_meaning.specs.Operators.{wrap, word_of}
use Rattle.smv_values.specs.Answers.{kept}

pub wrap_below : (n : ℕ) (z : ℤ) → wrap n z < 2 ^ n
wrap_below n (pos a) = mod_below a (2 ^ n) (pow_pos n)
wrap_below n (negsuc a) = omega (arith, pow_pos n)

by_wrap : (z : ℤ) → int_wrap w128 z ≡ cast_signed w128 (wrap 128 z)
unfolding int_wrap
by_wrap (pos a) = refl
by_wrap (negsuc a) = refl

same_bits : (m n : ℕ) → m < 2 ^ 128 → n < 2 ^ 128 → cast_signed w128 m ≡ cast_signed w128 n → m ≡ n
same_bits m n below small e = sym (of_z-to_z w128 m below) ∙ ap (cast_unsigned w128) e ∙ of_z-to_z w128 n small

reduced : (m : ℕ) → m % 2 ^ 128 < 2 ^ 128
reduced m = mod_below m (2 ^ 128) (pow_pos 128)

pub wrap_sum : (a b : ℤ) → (wrap 128 a + wrap 128 b) % 2 ^ 128 ≡ wrap 128 (a +ℤ b)
wrap_sum a b =
    let m = wrap 128 a in
    let n = wrap 128 b in
    same_bits ((m + n) % 2 ^ 128) (wrap 128 (a +ℤ b)) (reduced (m + n)) (wrap_below 128 (a +ℤ b))
    (wrapping_add-bits w128 m n (wrap_below 128 a) (wrap_below 128 b)
    ∙ sym (λ i. int_wrap w128 (by_wrap a i +ℤ by_wrap b i))
    ∙ int_wrap-add_left w128 a (int_wrap w128 b) ∙ int_wrap-add_right w128 a b ∙ by_wrap (a +ℤ b))

pub wrap_difference : (a b : ℤ) → (wrap 128 a + (2 ^ 128 - wrap 128 b)) % 2 ^ 128 ≡ wrap 128 (a -ℤ b)
wrap_difference a b =
    let m = wrap 128 a in
    let n = wrap 128 b in
    same_bits ((m + (2 ^ 128 - n)) % 2 ^ 128) (wrap 128 (a -ℤ b)) (reduced (m + (2 ^ 128 - n))) (wrap_below 128 (a -ℤ b))
    (wrapping_sub-bits w128 m n (wrap_below 128 a) (wrap_below 128 b)
    ∙ sym (λ i. int_wrap w128 (by_wrap a i -ℤ by_wrap b i))
    ∙ int_wrap-add_left w128 a (neg_ℤ (int_wrap w128 b)) ∙ int_wrap-sub_right w128 a b ∙ by_wrap (a -ℤ b))

pub wrap_product : (a b : ℤ) → (wrap 128 a * wrap 128 b) % 2 ^ 128 ≡ wrap 128 (a *ℤ b)
wrap_product a b =
    let m = wrap 128 a in
    let n = wrap 128 b in
    same_bits ((m * n) % 2 ^ 128) (wrap 128 (a *ℤ b)) (reduced (m * n)) (wrap_below 128 (a *ℤ b))
    (wrapping_mul-bits w128 m n (wrap_below 128 a) (wrap_below 128 b)
    ∙ sym (λ i. int_wrap w128 (by_wrap a i *ℤ by_wrap b i))
    ∙ int_wrap-mul_left w128 a (int_wrap w128 b) ∙ int_wrap-mul_right w128 a b ∙ by_wrap (a *ℤ b))

-- the low digit of a number counted down from a product
from_above : (p q x y d : ℕ) → y < p → q ≡ x + 1 + d → q * p - 1 - (x * p + y) ≡ d * p + (p - 1 - y)
from_above p q x y d below is =
    let e : (x + 1 + d) * p ≡ x * p + p + d * p = grind arith in
    omega (arith, ap (λ n. n * p) is, e, below)

-- fewer bits are those of more
pub wrap_cut : (n : ℕ) (z : ℤ) → n ≤ 128 → wrap 128 z % 2 ^ n ≡ wrap n z
wrap_cut n (pos a) h =
    let e : 128 - n + n ≡ 128 = omega arith in
    ap (λ m. a % 2 ^ m % 2 ^ n) (sym e) ∙ mod-mod-pow a (128 - n) n
wrap_cut n (negsuc a) h =
    let e : 128 - n + n ≡ 128 = omega arith in
    let p = 2 ^ n in
    let q = 2 ^ (128 - n) in
    let x = a / p % q in
    let y = a % p in
    let whole : 2 ^ 128 ≡ q * p = ap (λ m. 2 ^ m) (sym e) ∙ pow-add 2 (128 - n) n in
    let parts : a % 2 ^ 128 ≡ x * p + y = ap (λ m. a % 2 ^ m) (sym e) ∙ mod-pow-add a (128 - n) n in
    let less : x < q = mod_below (a / p) q (pow_pos (128 - n)) in
    let low : y < p = mod_below a p (pow_pos n) in
    let d = q - 1 - x in
    ap (λ m. m % p) ((λ i. whole i - 1 - parts i) ∙ from_above p q x y d low (omega (arith, less)))
    ∙ mod-mul-add d p (p - 1 - y) (omega (arith, low))

-- the word that is made of what is left of a number
pub cut_word : (signed : Bool) (n residue : ℕ) (z : ℤ) → n ≤ 128 → residue ≡ wrap 128 z
    → kept (Bits (word_of signed n z) ∷ []) ≡ Some (Bits (record { signed = signed; width = n; bits = residue % 2 ^ n }) ∷ [])
cut_word signed n residue z h e =
    let cut : residue % 2 ^ n ≡ wrap n z = ap (λ m. m % 2 ^ n) e ∙ wrap_cut n z h in
    sym (subst (λ m. Some (Bits (record { signed = signed; width = n; bits = m }) ∷ []) ≡ kept (Bits (word_of signed n z) ∷ [])) (sym cut) (held n (wrap n z) h (wrap_below n z)))
  where
    held : (n m : ℕ) → n ≤ 128 → m < 2 ^ n → Some (Bits (record { signed = signed; width = n; bits = m }) ∷ []) ≡ kept (Bits (record { signed = signed; width = n; bits = m }) ∷ [])
    held n m h k = grind (arith, nat_tests)

-- nothing is left where bits move by 128 or more
pub far_up : (bits n : ℕ) → 128 ≤ n → 0 ≡ bits * 2 ^ n % 2 ^ 128
far_up bits n h =
    let e : n ≡ n - 128 + 128 = omega arith in
    let whole : bits * 2 ^ n ≡ bits * 2 ^ (n - 128) * 2 ^ 128 = ap (λ m. bits * 2 ^ m) e ∙ ap (λ m. bits * m) (pow-add 2 (n - 128) 128) ∙ sym (mul_assoc bits (2 ^ (n - 128)) (2 ^ 128)) in
    sym (ap (λ m. m % 2 ^ 128) whole ∙ mul-mod_left (bits * 2 ^ (n - 128)) (2 ^ 128))

pub far_down : (bits n : ℕ) → bits < 2 ^ 128 → 128 ≤ n → 0 ≡ bits / 2 ^ n
far_down bits n below h = sym (div-eq_of_lt (fits_wide bits n below h))

-- the bits of a word above those of another
pub joined : (a b i j : ℕ) → a < 2 ^ i → b < 2 ^ j → i + j ≤ 128 → (a * 2 ^ j % 2 ^ 128 ≡ a * 2 ^ j) × (a * 2 ^ j + b < 2 ^ 128)
joined a b i j below less h =
    let fits : a * 2 ^ j + b < 2 ^ j * 2 ^ i = mul-add-lt a (2 ^ j) b (2 ^ i) below less in
    let whole : 2 ^ (j + i) ≡ 2 ^ j * 2 ^ i = pow-add 2 j i in
    let most : 2 ^ (j + i) ≤ 2 ^ 128 = pow_mono {i = j + i} {j = 128} (omega (arith, h)) in
    (mod-eq_of_lt (omega (arith, fits, whole, most)), omega (arith, fits, whole, most))

-- a bit above others that leaves room below 128
pub high_fits : (n bits : ℕ) → n ≤ 127 → bits < 2 ^ n → (1 * 2 ^ n % 2 ^ 128 ≡ 2 ^ n) × (1 * 2 ^ n % 2 ^ 128 + bits < 2 ^ 128)
high_fits n bits h below =
    let most : 2 ^ n ≤ 2 ^ 127 = pow_mono {i = n} {j = 127} h in
    let same = one_shl n 128 (omega (arith, h)) in
    (same, omega (arith, most, below, same))
