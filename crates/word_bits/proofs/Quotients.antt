-- Signed quotients and remainders from those of the magnitudes.
use Rattle.std.proofs.Common.{◌≡◌, ℕ, ℤ, pos, neg_ℤ, zero, suc, ◌-◌, ◌^◌, ◌<◌, ◌≤◌, ◌/◌, ◌%◌, Bool, true, false, cond, List, length, get_or, unsigned_abs, int_div, int_rem, sym, ap, ◌∙◌, subst, mod-eq_of_lt, div-le_self, arith}
use Rattle.std.specs.Int.{complement_if}
use Rattle.std.proofs.lemmas.List.{length-map}
use Rattle.std.proofs.lemmas.Nat.{pow_below}
use Rattle.std.proofs.Math.Nat.{mod-le}
use Rattle.word_bits.proofs.Numbers.{remainder_from_carry, unsigned-below}
use Rattle.gates.specs.Literal.{Literal, always}
use Rattle.gates.specs.Valuation.{value_of, values_of}
use Rattle.word_bits.specs.Number.{number, top, xor, wrapped, number_against}
use Rattle.word_bits.specs.Words.{unsigned, signed}
use Rattle.word_bits.proofs.Signs.{top_value, signed_by_sign, against_top, against-true, against-false}

-- the quotient of two numbers, by their signs and the quotient of their sizes
signed_quotient : (s t : Bool) (m n : ℕ)
    → int_div (complement_if s m) (complement_if t n) ≡ cond (xor s t) (neg_ℤ (pos (unsigned_abs (complement_if s m) / unsigned_abs (complement_if t n)))) (pos (unsigned_abs (complement_if s m) / unsigned_abs (complement_if t n)))
signed_quotient true true m n = λ i. pos (suc m / suc n)
signed_quotient true false m n = λ i. neg_ℤ (pos (suc m / n))
signed_quotient false true m n = λ i. neg_ℤ (pos (m / suc n))
signed_quotient false false m n = λ i. pos (m / n)

signed_remainder : (s : Bool) (m : ℕ) (d : ℤ)
    → int_rem (complement_if s m) d ≡ cond s (neg_ℤ (pos (unsigned_abs (complement_if s m) % unsigned_abs d))) (pos (unsigned_abs (complement_if s m) % unsigned_abs d))
signed_remainder true m d = λ i. neg_ℤ (pos (suc m % unsigned_abs d))
signed_remainder false m d = λ i. pos (m % unsigned_abs d)

-- a number of this size and sign, modulo two to the width
wrapped_signed : (width : ℕ) (c : Bool) (q : ℕ) → q < 2 ^ width → wrapped width (cond c (neg_ℤ (pos q)) (pos q)) ≡ cond c ((2 ^ width - q) % 2 ^ width) q
wrapped_signed width false q h = mod-eq_of_lt h
wrapped_signed width true zero h = mod-eq_of_lt h ∙ remainder_from_carry 0 (2 ^ width) 1 (2 ^ width - 0) h (omega arith)
wrapped_signed width true (suc q) h =
    let less : q < 2 ^ width = omega (arith, h) in
    let rest : 2 ^ width - suc q < 2 ^ width = omega (arith, h) in
    ap (λ m. 2 ^ width - 1 - m) (mod-eq_of_lt less) ∙ (let e : 2 ^ width - 1 - q ≡ 2 ^ width - suc q = omega arith in e) ∙ sym (mod-eq_of_lt rest)

size_is : (t : Bool) (bs : List Bool) → unsigned_abs (complement_if t (number_against t bs)) ≡ cond t (2 ^ length bs - number bs) (number bs)
size_is true bs = omega (arith, against-true bs)
size_is false bs = against-false bs

size-le : (t : Bool) (m p : ℕ) → m < p → unsigned_abs (complement_if t m) ≤ p
size-le true m p h = omega (arith, h)
size-le false m p h = omega (arith, h)

sized : (t : Bool) (p u s m : ℕ) → u < p → s ≡ cond t (p - u) u → s < p → m ≡ cond t ((p - u) % p) u → (m ≡ s) × (0 < u → 0 < s)
sized true p u s m h e l f = (f ∙ mod-eq_of_lt (let k : p - u < p = omega (arith, e, l) in k) ∙ sym e, λ k. omega (arith, e, h))
sized false p u s m h e l f = (f ∙ sym e, λ k. omega (arith, e, k))

pub magnitude-below : (values : List Bool) (a : List Literal) → 0 < length a → unsigned_abs (signed values a) < 2 ^ length a
magnitude-below values a h =
    let bs = values_of values a in
    let len : length bs ≡ length a = length-map a (value_of values) in
    let t = top bs in
    let s : unsigned_abs (signed values a) ≤ 2 ^ (length a - 1) =
    subst (λ z. unsigned_abs z ≤ 2 ^ (length a - 1)) (sym (signed_by_sign values a h)) (size-le t (number_against t bs) (2 ^ (length a - 1)) (subst (λ n. number_against t bs < 2 ^ (n - 1)) len (against_top bs (omega (arith, len))))) in
    omega (arith, s, pow_below (length a - 1) (length a) (omega arith))

-- a vector that was negated where its highest bit is set
pub magnitude : (values : List Bool) (a size : List Literal) (x : Literal) → 0 < length a → x ≡ get_or a (length a - 1) always
    → unsigned values size ≡ cond (value_of values x) ((2 ^ length a - unsigned values a) % 2 ^ length a) (unsigned values a)
    → (unsigned values size ≡ unsigned_abs (signed values a)) × (0 < unsigned values a → 0 < unsigned_abs (signed values a))
magnitude values a size x h at is =
    let bs = values_of values a in
    let t = top bs in
    let s : unsigned_abs (signed values a) ≡ cond (value_of values x) (2 ^ length a - unsigned values a) (unsigned values a) =
    ap unsigned_abs (signed_by_sign values a h) ∙ size_is t bs
    ∙ (λ i. cond (top_value values a x h at i) (2 ^ length-map a (value_of values) i - unsigned values a) (unsigned values a)) in
    sized (value_of values x) (2 ^ length a) (unsigned values a) (unsigned_abs (signed values a)) (unsigned values size) (unsigned-below values a) s (magnitude-below values a h) is

-- the signs put back
signed_division : (values : List Bool) (a b quotient remainder : List Literal) (x y : Literal) (c : Bool) (q r : ℕ) → 0 < length a → 0 < length b
    → x ≡ get_or a (length a - 1) always → y ≡ get_or b (length b - 1) always
    → q ≡ unsigned_abs (signed values a) / unsigned_abs (signed values b) → r ≡ unsigned_abs (signed values a) % unsigned_abs (signed values b)
    → c ≡ xor (value_of values x) (value_of values y)
    → unsigned values quotient ≡ cond c ((2 ^ length a - q) % 2 ^ length a) q
    → unsigned values remainder ≡ cond (value_of values x) ((2 ^ length a - r) % 2 ^ length a) r
    → (unsigned values quotient ≡ wrapped (length a) (int_div (signed values a) (signed values b)))
    × (unsigned values remainder ≡ wrapped (length a) (int_rem (signed values a) (signed values b)))
signed_division values a b quotient remainder x y c q r h k at_a at_b is_q is_r is_c is_quotient is_remainder =
    let n = length a in
    let s = top (values_of values a) in
    let t = top (values_of values b) in
    let size = unsigned_abs (signed values a) in
    let other = unsigned_abs (signed values b) in
    let below = magnitude-below values a h in
    let q_small : q < 2 ^ n = omega (arith, is_q, div-le_self size other, below) in
    let r_small : r < 2 ^ n = omega (arith, is_r, mod-le size other, below) in
    let quotient_is : int_div (signed values a) (signed values b) ≡ cond c (neg_ℤ (pos q)) (pos q) =
    quotient_by_signs s t (signed values a) (signed values b) (number_against s (values_of values a)) (number_against t (values_of values b)) (signed_by_sign values a h) (signed_by_sign values b k)
    ∙ sym (λ i. cond ((is_c ∙ (λ j. xor (sym (top_value values a x h at_a) j) (sym (top_value values b y k at_b) j))) i) (neg_ℤ (pos (is_q i))) (pos (is_q i))) in
    let remainder_is : int_rem (signed values a) (signed values b) ≡ cond (value_of values x) (neg_ℤ (pos r)) (pos r) =
    remainder_by_sign s (signed values a) (signed values b) (number_against s (values_of values a)) (signed_by_sign values a h)
    ∙ (λ i. cond (top_value values a x h at_a i) (neg_ℤ (pos (sym is_r i))) (pos (sym is_r i))) in
    (is_quotient ∙ sym (ap (wrapped n) quotient_is ∙ wrapped_signed n c q q_small), is_remainder ∙ sym (ap (wrapped n) remainder_is ∙ wrapped_signed n (value_of values x) r r_small))
  where
    quotient_by_signs : (s t : Bool) (y z : ℤ) (l m : ℕ) → y ≡ complement_if s l → z ≡ complement_if t m
        → int_div y z ≡ cond (xor s t) (neg_ℤ (pos (unsigned_abs y / unsigned_abs z))) (pos (unsigned_abs y / unsigned_abs z))
    quotient_by_signs s t y z l m e f = (λ i. int_div (e i) (f i)) ∙ signed_quotient s t l m ∙ sym (λ i. cond (xor s t) (neg_ℤ (pos (unsigned_abs (e i) / unsigned_abs (f i)))) (pos (unsigned_abs (e i) / unsigned_abs (f i))))

    remainder_by_sign : (s : Bool) (y z : ℤ) (l : ℕ) → y ≡ complement_if s l → int_rem y z ≡ cond s (neg_ℤ (pos (unsigned_abs y % unsigned_abs z))) (pos (unsigned_abs y % unsigned_abs z))
    remainder_by_sign s y z l e = (λ i. int_rem (e i) z) ∙ signed_remainder s l z ∙ sym (λ i. cond s (neg_ℤ (pos (unsigned_abs (e i) % unsigned_abs z))) (pos (unsigned_abs (e i) % unsigned_abs z)))

pub divided_by_sizes : (values : List Bool) (a b dividend divisor size rest quotient remainder : List Literal) (x y : Literal) (c : Bool) → 0 < length a → length a ≡ length b
    → x ≡ get_or a (length a - 1) always → y ≡ get_or b (length b - 1) always
    → unsigned values dividend ≡ cond (value_of values x) ((2 ^ length a - unsigned values a) % 2 ^ length a) (unsigned values a)
    → unsigned values divisor ≡ cond (value_of values y) ((2 ^ length b - unsigned values b) % 2 ^ length b) (unsigned values b)
    → length size ≡ length a → length rest ≡ length a
    → (0 < unsigned values divisor → unsigned values size ≡ unsigned values dividend / unsigned values divisor)
    → (0 < unsigned values divisor → unsigned values rest ≡ unsigned values dividend % unsigned values divisor)
    → c ≡ xor (value_of values x) (value_of values y)
    → unsigned values quotient ≡ cond c ((2 ^ length size - unsigned values size) % 2 ^ length size) (unsigned values size)
    → unsigned values remainder ≡ cond (value_of values x) ((2 ^ length rest - unsigned values rest) % 2 ^ length rest) (unsigned values rest)
    → 0 < unsigned values b
    → (unsigned values quotient ≡ wrapped (length a) (int_div (signed values a) (signed values b)))
    × (unsigned values remainder ≡ wrapped (length a) (int_rem (signed values a) (signed values b)))
divided_by_sizes values a b dividend divisor size rest quotient remainder x y c h same at_a at_b is_dividend is_divisor size_len rest_len is_size is_rest is_c is_quotient is_remainder positive =
    let k : 0 < length b = omega (arith, h, same) in
    let m = magnitude values a dividend x h at_a is_dividend in
    let n = magnitude values b divisor y k at_b is_divisor in
    let some : 0 < unsigned values divisor = omega (arith, n.0, n.1 positive) in
    let q = unsigned values size in
    let r = unsigned values rest in
    signed_division values a b quotient remainder x y c q r h k at_a at_b
    (is_size some ∙ (λ i. m.0 i / n.0 i)) (is_rest some ∙ (λ i. m.0 i % n.0 i)) is_c
    (is_quotient ∙ ap (λ w. cond c ((2 ^ w - q) % 2 ^ w) q) size_len)
    (is_remainder ∙ ap (λ w. cond (value_of values x) ((2 ^ w - r) % 2 ^ w) r) rest_len)
