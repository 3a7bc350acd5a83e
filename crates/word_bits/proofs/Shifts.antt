-- Arithmetic of shifts.
use Rattle.std.proofs.Common.{◌/◌, mul_comm, refl, map, pos, ◌&&◌, take-append-drop, div-one, ◌≡◌, ℕ, zero, suc, ◌+◌, ◌*◌, ◌-◌, ◌^◌, ◌<◌, ◌≤◌, ◌%◌, Bool, true, false, cond, List, ◌++◌, length, take, drop, replicate, sym, ap, ◌∙◌, subst, ◌⊎◌, inl, inr, arith}
use Rattle.std.proofs.lemmas.List.{length-take-le, length-replicate, length-append, take_all, length-map, drop-map}
use Rattle.std.proofs.lemmas.Nat.{pow-add, mul-mod_first, shr-shr, shr_le, shr_high}
use Rattle.std.specs.Int.{complement_if, int_div_euclid}
use Rattle.gates.specs.declared.node.Node.{Node}
use Rattle.gates.specs.Literal.{Literal, negated, always}
use Rattle.gates.specs.Valuation.{value_of, values_of, IsValuation}
use Rattle.word_bits.specs.Number.{digit, number, xor, top, number_against}
use Rattle.word_bits.specs.Words.{unsigned, signed}
use Rattle.word_bits.proofs.Numbers.{number-append, number-below, unsigned-zeros, unsigned-append, unsigned-below, remainder_from_carry}
use Rattle.word_bits.proofs.Products.{unsigned-parts}
use Rattle.word_bits.proofs.Signs.{against-filled, by_filling, signed_by_sign}

regroup : (p q f g : ℕ) → p * f + p * q * g ≡ (f + q * g) * p
regroup p q f g = grind arith

-- one stage
pub shifted_up : {nodes : List Node} {values : List Bool} → IsValuation nodes values → (a zeros kept moved r : List Literal) (bit : Bool) (distance : ℕ) → distance ≤ length a
    → zeros ≡ replicate distance (negated always) → kept ≡ take (length a - distance) a → moved ≡ zeros ++ kept
    → unsigned values r ≡ cond bit (unsigned values moved) (unsigned values a)
    → unsigned values r ≡ (unsigned values a * 2 ^ (distance * digit bit)) % 2 ^ length a
shifted_up {values = values} v a zeros kept moved r bit distance h is_zeros is_kept is_moved is = is ∙ by bit
  where
    by : (bit : Bool) → cond bit (unsigned values moved) (unsigned values a) ≡ (unsigned values a * 2 ^ (distance * digit bit)) % 2 ^ length a
    by false = remainder_from_carry (unsigned values a) (2 ^ length a) 0 (unsigned values a * 2 ^ (distance * 0)) (unsigned-below values a)
        (let e : distance * 0 ≡ 0 = grind arith in
        (let f : unsigned values a + 2 ^ length a * 0 ≡ unsigned values a * 1 = grind arith in f) ∙ ap (λ n. unsigned values a * 2 ^ n) (sym e))
    by true =
        let n = length a in
        let rest = drop (n - distance) a in
        let zeros_len : length zeros ≡ distance = ap length is_zeros ∙ length-replicate distance (negated always) in
        let kept_len : length kept ≡ n - distance = ap length is_kept ∙ length-take-le (n - distance) a (omega arith) in
        let none : unsigned values zeros ≡ 0 = ap (unsigned values) is_zeros ∙ unsigned-zeros v distance in
        let spelled : unsigned values moved ≡ 2 ^ distance * unsigned values kept =
        ap (unsigned values) is_moved ∙ unsigned-append values zeros kept ∙ (λ i. none i + 2 ^ zeros_len i * unsigned values kept) ∙ (let e : 0 + 2 ^ distance * unsigned values kept ≡ 2 ^ distance * unsigned values kept = omega arith in e) in
        let width : length moved ≡ n = omega (arith, ap length is_moved, length-append zeros kept, zeros_len, kept_len, h) in
        let below : unsigned values moved < 2 ^ n = subst (λ m. unsigned values moved < 2 ^ m) width (unsigned-below values moved) in
        let whole : 2 ^ n ≡ 2 ^ distance * 2 ^ (n - distance) = ap (λ m. 2 ^ m) (let e : n ≡ distance + (n - distance) = omega arith in e) ∙ pow-add 2 distance (n - distance) in
        let a_is : unsigned values a ≡ unsigned values kept + 2 ^ (n - distance) * unsigned values rest =
        unsigned-parts values a (n - distance) (omega arith) ∙ sym (ap (λ l. unsigned values l + 2 ^ (n - distance) * unsigned values rest) is_kept) in
        let one : distance * 1 ≡ distance = omega arith in
        remainder_from_carry (unsigned values moved) (2 ^ n) (unsigned values rest) (unsigned values a * 2 ^ (distance * 1)) below
        ((λ i. spelled i + whole i * unsigned values rest) ∙ regroup (2 ^ distance) (2 ^ (n - distance)) (unsigned values kept) (unsigned values rest)
        ∙ sym (λ i. a_is i * 2 ^ one i))

-- one stage more
pub shift_more : (a s t d m : ℕ) (b : Bool) → s ≡ (a * 2 ^ t) % m → (s * 2 ^ (d * digit b)) % m ≡ (a * 2 ^ (t + d * digit b)) % m
shift_more a s t d m b e =
    ap (λ n. (n * 2 ^ (d * digit b)) % m) e ∙ mul-mod_first (a * 2 ^ t) (2 ^ (d * digit b)) m
    ∙ ap (λ n. n % m) ((let f : a * 2 ^ t * 2 ^ (d * digit b) ≡ a * (2 ^ t * 2 ^ (d * digit b)) = grind arith in f) ∙ ap (λ n. a * n) (sym (pow-add 2 t (d * digit b))))

-- the stages are enough where the amount is at most the width
pub amount_whole : (values : List Bool) (by : List Literal) (i n : ℕ) → i ≤ length by → (length by ≤ i) ⊎ (n < 2 ^ i) → unsigned values by ≤ n → unsigned values (take i by) ≡ unsigned values by
amount_whole values by i n within (inl all) small = ap (unsigned values) (take_all i by all)
amount_whole values by i n within (inr past) small =
    only_low (unsigned values (take i by)) (unsigned values (drop i by)) (2 ^ i) (unsigned values by) (unsigned-parts values by i within) (omega (arith, small, past))
  where
    only_low : (l h p w : ℕ) → w ≡ l + p * h → w < p → l ≡ w
    only_low l zero p w e k = omega (arith, e)
    only_low l (suc h) p w e k = absurd (let f : p * suc h ≡ p * h + p = grind arith in omega (arith, e, f, k))

pub first_stage : (a m : ℕ) → a < m → a ≡ (a * 2 ^ 0) % m
first_stage a m h = remainder_from_carry a m 0 (a * 2 ^ 0) h (let e : a + m * 0 ≡ a * 1 = grind arith in e)

-- one stage down
number-drop : (n : ℕ) (bs : List Bool) → n ≤ length bs → number (drop n bs) ≡ number bs / 2 ^ n
number-drop n bs h =
    let low = take n bs in
    let len : length low ≡ n = length-take-le n bs h in
    let parts : number bs ≡ number (drop n bs) * 2 ^ n + number low =
    ap number (sym (take-append-drop n bs)) ∙ number-append low (drop n bs) ∙ ap (λ m. number low + 2 ^ m * number (drop n bs)) len
    ∙ (let e : number low + 2 ^ n * number (drop n bs) ≡ number (drop n bs) * 2 ^ n + number low = omega (arith, mul_comm (2 ^ n) (number (drop n bs))) in e) in
    sym (ap (λ m. m / 2 ^ n) parts ∙ shr_high (number (drop n bs)) n (number low) (subst (λ m. number low < 2 ^ m) len (number-below low)))

pub shifted_down : (values : List Bool) (a filled kept moved r : List Literal) (fill : Literal) (bit : Bool) (distance : ℕ) → distance ≤ length a
    → filled ≡ replicate distance fill → kept ≡ drop distance a → moved ≡ kept ++ filled
    → values_of values r ≡ cond bit (values_of values moved) (values_of values a)
    → number_against (value_of values fill) (values_of values r) ≡ number_against (value_of values fill) (values_of values a) / 2 ^ (distance * digit bit)
shifted_down values a filled kept moved r fill bit distance h is_filled is_kept is_moved is = ap (number_against f) is ∙ by bit
  where
    f : Bool
    f = value_of values fill

    by : (bit : Bool) → number_against f (cond bit (values_of values moved) (values_of values a)) ≡ number_against f (values_of values a) / 2 ^ (distance * digit bit)
    by false = sym (div-one (number_against f (values_of values a))) ∙ ap (λ n. number_against f (values_of values a) / 2 ^ n) (let e : 0 ≡ distance * 0 = omega arith in e)
    by true =
        let bs = map (xor f) (values_of values a) in
        let len : length bs ≡ length a = length-map (values_of values a) (xor f) ∙ length-map a (value_of values) in
        against-filled values kept filled moved distance fill is_filled is_moved
        ∙ ap (λ l. number_against f (values_of values l)) is_kept
        ∙ ap number (ap (map (xor f)) (sym (drop-map (value_of values) distance a)) ∙ sym (drop-map (xor f) distance (values_of values a)))
        ∙ number-drop distance bs (omega (arith, len, h))
        ∙ ap (λ n. number bs / 2 ^ n) (let e : distance ≡ distance * 1 = omega arith in e)

-- one stage more
pub shift_down_more : (a s t d : ℕ) (b : Bool) → s ≡ a / 2 ^ t → s / 2 ^ (d * digit b) ≡ a / 2 ^ (t + d * digit b)
shift_down_more a s t d b e = ap (λ n. n / 2 ^ (d * digit b)) e ∙ shr-shr a t (d * digit b)

div_complement : (t : Bool) (n m : ℕ) → complement_if t (n / m) ≡ int_div_euclid (complement_if t n) (pos m)
div_complement true n m = refl
div_complement false n m = refl

-- what all stages give, by the filling
pub all_shifted : (values : List Bool) (a r : List Literal) (fill : Literal) (copy_sign : Bool) (distance : ℕ) → 0 < length a → length r ≡ length a
    → value_of values fill ≡ (copy_sign && top (values_of values a))
    → number_against (value_of values fill) (values_of values r) ≡ number_against (value_of values fill) (values_of values a) / 2 ^ distance
    → (copy_sign ≡ false → unsigned values r ≡ unsigned values a / 2 ^ distance)
    × (copy_sign ≡ true → signed values r ≡ int_div_euclid (signed values a) (pos (2 ^ distance)))
all_shifted values a r fill copy_sign distance h width fills is =
    let all = by_filling values a r fill copy_sign (λ n. n / 2 ^ distance) (λ n. shr_le n distance) h (omega (arith, width)) fills is in
    let t = top (values_of values a) in
    (all.0, λ e. all.1 e ∙ div_complement t (number_against t (values_of values a)) (2 ^ distance) ∙ ap (λ z. int_div_euclid z (pos (2 ^ distance))) (sym (signed_by_sign values a h)))
