-- Arithmetic of products, rows and remainders.
use Rattle.std.proofs.Common.{eqb, ◌&&◌, not, get_or, ◌≡◌, ℕ, zero, suc, ◌+◌, ◌*◌, ◌-◌, ◌^◌, ◌<◌, ◌≤◌, ◌/◌, ◌%◌, Bool, true, false, cond, List, [], ◌∷◌, ◌++◌, length, get_or, take, drop, sym, ap, ◌∙◌, subst, arith}
use Rattle.std.proofs.lemmas.Bool.Decides.{nat_tests}
use Rattle.std.proofs.lemmas.List.{take-append-drop, length-take-le, length-drop, length-append, drop_more}
use Rattle.std.proofs.lemmas.Nat.{div-add-mod', pow-add, shr_high, mod_low}
use Rattle.std.proofs.Math.Nat.{mul_comm, add-mod, mod-mod}
use Rattle.gates.specs.Literal.{Literal, always}
use Rattle.word_bits.specs.Number.{digit}
use Rattle.word_bits.specs.Words.{unsigned}
use Rattle.gates.specs.Valuation.{value_of}
use Rattle.word_bits.proofs.Numbers.{digit_small, unsigned-append, unsigned-below, remainder_from_carry}

row_added : (p q l h f g s c d : ℕ) → s + q * c ≡ h + d * f → l + p * s + p * q * (c + d * g) ≡ l + p * h + p * d * (f + q * g)
row_added p q l h f g s c d row = let e = ap (λ n. p * n) row in grind (arith, e)

cond-digit : (d : Bool) (n : ℕ) → cond d n 0 ≡ digit d * n
cond-digit true n = omega arith
cond-digit false n = omega arith

-- the number of a list from those of its front and its rest
pub unsigned-parts : (values : List Bool) (xs : List Literal) (n : ℕ) → n ≤ length xs → unsigned values xs ≡ unsigned values (take n xs) + 2 ^ n * unsigned values (drop n xs)
unsigned-parts values xs n h =
    ap (unsigned values) (sym (take-append-drop n xs)) ∙ unsigned-append values (take n xs) (drop n xs)
    ∙ ap (λ m. unsigned values (take n xs) + 2 ^ m * unsigned values (drop n xs)) (length-take-le n xs h)

-- the number of bits in the midst of a list
pub unsigned-cut : (values : List Bool) (xs : List Literal) (low n : ℕ) → low + n ≤ length xs → unsigned values (take n (drop low xs)) ≡ unsigned values xs / 2 ^ low % 2 ^ n
unsigned-cut values xs low n h =
    let above = drop low xs in
    let high : unsigned values xs / 2 ^ low ≡ unsigned values above =
    ap (λ m. m / 2 ^ low) (parted xs low (omega arith)) ∙ shr_high (unsigned values above) low (unsigned values (take low xs)) (below xs low (omega arith)) in
    let width : n ≤ length above = omega (arith, length-drop low xs) in
    sym (ap (λ m. m % 2 ^ n) (high ∙ parted above n width) ∙ mod_low (unsigned values (drop n above)) n (unsigned values (take n above)) (below above n width))
  where
    parted : (ys : List Literal) (m : ℕ) → m ≤ length ys → unsigned values ys ≡ unsigned values (drop m ys) * 2 ^ m + unsigned values (take m ys)
    parted ys m k = omega (arith, unsigned-parts values ys m k, mul_comm (2 ^ m) (unsigned values (drop m ys)))

    below : (ys : List Literal) (m : ℕ) → m ≤ length ys → unsigned values (take m ys) < 2 ^ m
    below ys m k = subst (λ j. unsigned values (take m ys) < 2 ^ j) (length-take-le m ys k) (unsigned-below values (take m ys))

-- what a row adds
pub row_spelled : (values : List Bool) (product a low high part row sum r : List Literal) (at : ℕ) (d : Bool)
    → at < length a → length product ≡ length a → low ≡ take at product → high ≡ drop at product → part ≡ take (length a - at) a
    → unsigned values row ≡ cond d (unsigned values part) 0
    → unsigned values sum ≡ (unsigned values high + unsigned values row) % 2 ^ length high → length sum ≡ length high → r ≡ low ++ sum
    → unsigned values r ≡ (unsigned values product + 2 ^ at * digit d * unsigned values a) % 2 ^ length a
row_spelled values product a low high part row sum r at d h same is_low is_high is_part is_row is_sum len is =
    let n = length a in
    let low_len : length low ≡ at = ap length is_low ∙ length-take-le at product (omega arith) in
    let high_len : length high ≡ n - at = omega (arith, ap length is_high, length-drop at product) in
    let p = 2 ^ at in
    let q = 2 ^ (n - at) in
    let whole : 2 ^ n ≡ p * q = ap (λ m. 2 ^ m) (let e : n ≡ at + (n - at) = omega arith in e) ∙ pow-add 2 at (n - at) in
    let total = unsigned values high + unsigned values row in
    let spelled : unsigned values r ≡ unsigned values low + p * unsigned values sum =
    ap (unsigned values) is ∙ unsigned-append values low sum ∙ ap (λ m. unsigned values low + 2 ^ m * unsigned values sum) low_len in
    let width : length r ≡ n = omega (arith, ap length is, length-append low sum, low_len, len, high_len) in
    let below : unsigned values r < 2 ^ n = subst (λ m. unsigned values r < 2 ^ m) width (unsigned-below values r) in
    let row_is : unsigned values row ≡ digit d * unsigned values part = is_row ∙ cond-digit d (unsigned values part) in
    let divided : unsigned values sum + q * (total / q) ≡ unsigned values high + digit d * unsigned values part =
    (let e : unsigned values sum ≡ total % q = is_sum ∙ ap (λ m. total % 2 ^ m) high_len in quotient_first (unsigned values sum) total q e ∙ ap (λ m. unsigned values high + m) row_is) in
    let rest = drop (n - at) a in
    let added = row_added p q (unsigned values low) (unsigned values high) (unsigned values part) (unsigned values rest) (unsigned values sum) (total / q) (digit d) divided in
    let product_is : unsigned values product ≡ unsigned values low + p * unsigned values high =
    unsigned-parts values product at (omega arith) ∙ sym (λ i. unsigned values (is_low i) + p * unsigned values (is_high i)) in
    let a_is : unsigned values a ≡ unsigned values part + q * unsigned values rest =
    unsigned-parts values a (n - at) (omega arith) ∙ sym (ap (λ l. unsigned values l + q * unsigned values rest) is_part) in
    remainder_from_carry (unsigned values r) (2 ^ n) (total / q + digit d * unsigned values rest) _ below
    ((λ i. spelled i + whole i * (total / q + digit d * unsigned values rest)) ∙ added
    ∙ sym (λ i. product_is i + p * digit d * a_is i))
  where
    quotient_first : (s t q : ℕ) → s ≡ t % q → s + q * (t / q) ≡ t
    quotient_first s t q e = omega (arith, e, div-add-mod' t q, mul_comm q (t / q))

-- a row more of a product
pub mod_row : (a t p d x m : ℕ) → x ≡ (a * t) % m → (x + p * d * a) % m ≡ (a * (t + p * d)) % m
mod_row a t p d x m e =
    let z = p * d * a in
    ap (λ y. (y + z) % m) e ∙ add-mod ((a * t) % m) z m ∙ ap (λ y. (y + z % m) % m) (mod-mod (a * t) m) ∙ sym (add-mod (a * t) z m)
    ∙ ap (λ y. y % m) (let f : a * t + z ≡ a * (t + p * d) = grind arith in f)

pub zero_product : (a m s : ℕ) → 0 < m → s ≡ 0 → s ≡ (a * 0) % m
zero_product a m s h e = e ∙ remainder_from_carry 0 m 0 (a * 0) h (let f : 0 + m * 0 ≡ a * 0 = grind arith in f)

-- one digit of a restoring division: s and c are the difference of x and the divisor, and its carry
restored : (x d s r q : ℕ) (c : Bool) → s + q * digit c + d ≡ x + q → s < q → x < 2 * d → r ≡ cond c s x → (r + digit c * d ≡ x) × (r < d)
restored x d s r q true e s_below x_below is = (omega (arith, e, is), omega (arith, e, is, x_below))
restored x d s r q false e s_below x_below is = (omega (arith, is), omega (arith, e, is, s_below))

-- the same with the low bits of the divisor alone, where z says that the others are 0
restored_low : (x l h s r q : ℕ) (z c : Bool) → z ≡ eqb h 0 → s + q * digit c + l ≡ x + q → s < q → x < q → x < 2 * (l + q * h) → r ≡ cond (z && c) s x
    → (r + digit (z && c) * (l + q * h) ≡ x) × (r < l + q * h)
restored_low x l zero s r q z c is_z e s_below x_small x_below is =
    let k : l + q * 0 ≡ l = omega arith in
    let all = restored x l s r q c e s_below (omega (arith, x_below)) (is ∙ ap (λ b. cond (b && c) s x) is_z) in
    subst (λ b. (r + digit (b && c) * (l + q * 0) ≡ x) × (r < l + q * 0)) (sym is_z) (subst (λ m. (r + digit c * m ≡ x) × (r < m)) (sym k) all)
restored_low x l (suc h) s r q z c is_z e s_below x_small x_below is =
    let z_is : z ≡ false = is_z ∙ (let e : eqb (suc h) 0 ≡ false = grind (arith, nat_tests) in e) in
    let same : r ≡ x = is ∙ ap (λ b. cond (b && c) s x) z_is in
    let f : q * suc h ≡ q * h + q = grind arith in
    subst (λ b. (r + digit (b && c) * (l + q * suc h) ≡ x) × (r < l + q * suc h)) (sym z_is) (let g : r + 0 * (l + q * suc h) ≡ x = grind (arith, same) in g, omega (arith, f, same, x_small))

pub divided : (values : List Bool) (remainder divisor lowest shifted low high difference rest : List Literal) (bit : Literal) (small carry digit' : Bool)
    → length remainder < length divisor → lowest ≡ bit ∷ [] → shifted ≡ lowest ++ remainder → low ≡ take (length shifted) divisor → high ≡ drop (length shifted) divisor
    → unsigned values difference + 2 ^ length shifted * digit carry + unsigned values low ≡ unsigned values shifted + 2 ^ length shifted
    → length difference ≡ length shifted → small ≡ eqb (unsigned values high) 0 → digit' ≡ (small && carry)
    → unsigned values rest ≡ cond digit' (unsigned values difference) (unsigned values shifted)
    → unsigned values remainder < unsigned values divisor
    → (unsigned values rest + digit digit' * unsigned values divisor ≡ digit (value_of values bit) + 2 * unsigned values remainder) × (unsigned values rest < unsigned values divisor)
divided values remainder divisor lowest shifted low high difference rest bit small carry digit' within is_lowest is_shifted is_low is_high is_difference difference_len is_small is_digit is_rest below =
    let q = 2 ^ length shifted in
    let x = unsigned values shifted in
    let r = unsigned values rest in
    let shifted_is : shifted ≡ bit ∷ remainder = is_shifted ∙ ap (λ l. l ++ remainder) is_lowest in
    let x_is : x ≡ digit (value_of values bit) + 2 * unsigned values remainder = ap (unsigned values) shifted_is in
    let divisor_is : unsigned values divisor ≡ unsigned values low + q * unsigned values high =
    unsigned-parts values divisor (length shifted) (omega (arith, ap length shifted_is, within)) ∙ sym (λ i. unsigned values (is_low i) + q * unsigned values (is_high i)) in
    let x_below : x < 2 * unsigned values divisor = omega (arith, x_is, below, digit_small (value_of values bit)) in
    let s_below : unsigned values difference < q = subst (λ m. unsigned values difference < 2 ^ m) difference_len (unsigned-below values difference) in
    let all = restored_low x (unsigned values low) (unsigned values high) (unsigned values difference) r q small carry is_small is_difference s_below (unsigned-below values shifted)
    (subst (λ d. x < 2 * d) divisor_is x_below) (is_rest ∙ ap (λ b. cond b (unsigned values difference) x) is_digit) in
    ((λ i. r + digit (is_digit i) * divisor_is i) ∙ all.0 ∙ x_is, subst (λ d. r < d) (sym divisor_is) all.1)

-- one bit more that is not set
pub zero_more : (values : List Bool) (a : List Literal) (i : ℕ) (bit : Literal) (c c' d : Bool) → i < length a → bit ≡ get_or a (length a - 1 - i) always
    → d ≡ not (value_of values bit) → c' ≡ (c && d) → c ≡ eqb (unsigned values (drop (length a - i) a)) 0 → c' ≡ eqb (unsigned values (drop (length a - (i + 1)) a)) 0
zero_more values a i bit c c' d h at is_d is before =
    let j = length a - 1 - i in
    let next : j + 1 ≡ length a - i = omega arith in
    is ∙ (λ k. before k && is_d k) ∙ by (value_of values bit) (unsigned values (drop (length a - i) a))
    ∙ (λ k. eqb (digit (value_of values (at k)) + 2 * unsigned values (drop (sym next k) a)) 0)
    ∙ ap (λ l. eqb (unsigned values l) 0) (sym (drop_more a j always (omega arith))) ∙ ap (λ n. eqb (unsigned values (drop n a)) 0) (let e : j ≡ length a - (i + 1) = omega arith in e)
  where
    by : (b : Bool) (n : ℕ) → (eqb n 0 && not b) ≡ eqb (digit b + 2 * n) 0
    by true n = grind (arith, nat_tests)
    by false n = grind (arith, nat_tests)

-- one more digit of a quotient
pub divide_more : (values : List Bool) (a b quotient quotient' single remainder rest : List Literal) (i : ℕ) (bit d : Literal) → i < length a
    → bit ≡ get_or a (length a - 1 - i) always → single ≡ d ∷ [] → quotient' ≡ single ++ quotient
    → unsigned values rest + digit (value_of values d) * unsigned values b ≡ digit (value_of values bit) + 2 * unsigned values remainder
    → unsigned values (drop (length a - i) a) ≡ unsigned values quotient * unsigned values b + unsigned values remainder
    → unsigned values (drop (length a - (i + 1)) a) ≡ unsigned values quotient' * unsigned values b + unsigned values rest
divide_more values a b quotient quotient' single remainder rest i bit d h at is_single is_quotient division before =
    let j = length a - 1 - i in
    let first : length a - (i + 1) ≡ j = omega arith in
    let next : j + 1 ≡ length a - i = omega arith in
    ap (λ n. unsigned values (drop n a)) first ∙ ap (unsigned values) (drop_more a j always (omega arith))
    ∙ (λ k. digit (value_of values (sym at k)) + 2 * unsigned values (drop (next k) a))
    ∙ by (digit (value_of values bit)) (digit (value_of values d)) (unsigned values (drop (length a - i) a)) (unsigned values quotient) (unsigned values b) (unsigned values remainder) (unsigned values rest)
    before division
    ∙ ap (λ q. unsigned values q * unsigned values b + unsigned values rest) (sym (is_quotient ∙ ap (λ s. s ++ quotient) is_single))
  where
    by : (x d u q b r s : ℕ) → u ≡ q * b + r → s + d * b ≡ x + 2 * r → x + 2 * u ≡ (d + 2 * q) * b + s
    by x d u q b r s e f = grind (arith, e, f)
