-- Signed numbers, by the places at which bits differ from their sign.
use Rattle.std.proofs.Common.{int_lt, ltb, pow_mono, ◌≡◌, ℕ, ℤ, pos, ◌-ℤ◌, zero, suc, ◌+◌, ◌*◌, ◌-◌, ◌^◌, ◌<◌, ◌≤◌, Bool, true, false, cond, not, ◌&&◌, List, [], ◌∷◌, ◌++◌, length, map, get_or, take, replicate, refl, sym, ap, ◌∙◌, subst, add-one, arith}
use Rattle.std.specs.Int.{complement_if}
use Rattle.std.proofs.lemmas.Bool.Decides.{nat_tests}
use Rattle.std.proofs.lemmas.Int.{ints}
use Rattle.std.proofs.lemmas.List.{map-append, map-id, length-map, take_more, take_all, length-take-le, length-append, take-map, get_or-map}
use Rattle.word_bits.specs.Number.{digit, number, top, signed_number, xor, number_against}
use Rattle.gates.specs.Literal.{Literal, always}
use Rattle.gates.specs.Valuation.{value_of, values_of}
use Rattle.word_bits.specs.Words.{unsigned, signed}
use Rattle.word_bits.proofs.Numbers.{number-append, number-below, pow_more, unsigned-push, unsigned-below}

-- a list and its highest bit
pub top_apart : (bs : List Bool) → 0 < length bs → bs ≡ take (length bs - 1) bs ++ top bs ∷ []
top_apart bs h =
    let n = length bs - 1 in
    sym (ap (λ m. take m bs) (let e : n + 1 ≡ length bs = omega arith in e) ∙ take_all (length bs) bs (omega arith)) ∙ take_more bs n false (omega arith)

pub number-push : (xs : List Bool) (y : Bool) → number (xs ++ y ∷ []) ≡ number xs + 2 ^ length xs * digit y
number-push xs y = number-append xs (y ∷ []) ∙ ap (λ n. number xs + 2 ^ length xs * n) (let e : digit y + 2 * 0 ≡ digit y = omega arith in e)

pub number_by_top : (bs : List Bool) → 0 < length bs → number bs ≡ number (take (length bs - 1) bs) + 2 ^ (length bs - 1) * digit (top bs)
number_by_top bs h =
    ap number (top_apart bs h) ∙ number-push (take (length bs - 1) bs) (top bs)
    ∙ ap (λ n. number (take (length bs - 1) bs) + 2 ^ n * digit (top bs)) (length-take-le (length bs - 1) bs (omega arith))

against_by_top : (f : Bool) (bs : List Bool) → 0 < length bs → number_against f bs ≡ number_against f (take (length bs - 1) bs) + 2 ^ (length bs - 1) * digit (xor f (top bs))
against_by_top f bs h =
    let low = take (length bs - 1) bs in
    ap (number_against f) (top_apart bs h) ∙ ap number (map-append (xor f) low (top bs ∷ [])) ∙ number-push (map (xor f) low) (xor f (top bs))
    ∙ ap (λ n. number_against f low + 2 ^ n * digit (xor f (top bs))) (length-map low (xor f) ∙ length-take-le (length bs - 1) bs (omega arith))

against-below : (f : Bool) (bs : List Bool) → number_against f bs < 2 ^ length bs
against-below f bs = subst (λ n. number_against f bs < 2 ^ n) (length-map bs (xor f)) (number-below (map (xor f) bs))

low-below : (f : Bool) (bs : List Bool) → number_against f (take (length bs - 1) bs) < 2 ^ (length bs - 1)
low-below f bs = subst (λ n. number_against f (take (length bs - 1) bs) < 2 ^ n) (length-take-le (length bs - 1) bs (omega arith)) (against-below f (take (length bs - 1) bs))

pub against-false : (bs : List Bool) → number_against false bs ≡ number bs
against-false bs = ap number (map-id bs)

pub against-true : (bs : List Bool) → number_against true bs + number bs + 1 ≡ 2 ^ length bs
against-true [] = refl
against-true (b ∷ bs) =
    let e = against-true bs in
    let p : 2 ^ suc (length bs) ≡ 2 * 2 ^ length bs = ap (λ n. 2 ^ n) (sym (add-one (length bs))) ∙ pow_more (length bs) in
    rw p (by b (number_against true bs) (number bs) (2 ^ length bs) e)
  where
    by : (b : Bool) (m n p : ℕ) → m + n + 1 ≡ p → digit (not b) + 2 * m + (digit b + 2 * n) + 1 ≡ 2 * p
    by true m n p e = omega (arith, e)
    by false m n p e = omega (arith, e)

-- a list differs from its own sign below its highest bit alone
pub against_top : (bs : List Bool) → 0 < length bs → number_against (top bs) bs < 2 ^ (length bs - 1)
against_top bs h =
    let e : xor (top bs) (top bs) ≡ false = by (top bs) in
    subst (λ n. n < 2 ^ (length bs - 1))
    (sym (against_by_top (top bs) bs h ∙ ap (λ b. number_against (top bs) (take (length bs - 1) bs) + 2 ^ (length bs - 1) * digit b) e ∙ (let f : number_against (top bs) (take (length bs - 1) bs) + 2 ^ (length bs - 1) * 0 ≡ number_against (top bs) (take (length bs - 1) bs) = omega arith in f)))
    (low-below (top bs) bs)
  where
    by : (b : Bool) → xor b b ≡ false
    by true = refl
    by false = refl

-- and only from its own sign
pub top_is : (f : Bool) (bs : List Bool) → 0 < length bs → number_against f bs < 2 ^ (length bs - 1) → top bs ≡ f
top_is f bs h small = by f (top bs) (number_against f (take (length bs - 1) bs)) (2 ^ (length bs - 1)) (subst (λ n. n < 2 ^ (length bs - 1)) (against_by_top f bs h) small)
  where
    by : (f t : Bool) (l p : ℕ) → l + p * digit (xor f t) < p → t ≡ f
    by true true l p h = refl
    by true false l p h = absurd (omega (arith, h))
    by false true l p h = absurd (omega (arith, h))
    by false false l p h = refl

-- the signed number, where the bits differ from f below the highest bit alone
pub signed_is : (f : Bool) (bs : List Bool) → 0 < length bs → number_against f bs < 2 ^ (length bs - 1) → signed_number bs ≡ complement_if f (number_against f bs)
signed_is f bs h small =
    ap (λ t. pos (number bs) -ℤ pos (cond t (2 ^ length bs) 0)) (top_is f bs h small) ∙ by f
  where
    by : (f : Bool) → pos (number bs) -ℤ pos (cond f (2 ^ length bs) 0) ≡ complement_if f (number_against f bs)
    by true = omega (arith, ints, against-true bs)
    by false = omega (arith, ints, against-false bs)

pub signed_by_top : (bs : List Bool) → 0 < length bs → signed_number bs ≡ complement_if (top bs) (number_against (top bs) bs)
signed_by_top bs h = signed_is (top bs) bs h (against_top bs h)

-- more places with f
pub against-same : (f : Bool) (n : ℕ) → number_against f (replicate n f) ≡ 0
against-same f zero = refl
against-same f (suc n) = (λ i. digit (apart f i) + 2 * against-same f n i)
  where
    apart : (b : Bool) → xor b b ≡ false
    apart true = refl
    apart false = refl

pub against-append : (f : Bool) (bs : List Bool) (n : ℕ) → number_against f (bs ++ replicate n f) ≡ number_against f bs
against-append f bs n =
    ap number (map-append (xor f) bs (replicate n f)) ∙ number-append (map (xor f) bs) (map (xor f) (replicate n f))
    ∙ ap (λ m. number_against f bs + 2 ^ length (map (xor f) bs) * m) (against-same f n) ∙ (let e : number_against f bs + 2 ^ length (map (xor f) bs) * 0 ≡ number_against f bs = omega arith in e)

values-replicate : (values : List Bool) (n : ℕ) (l : Literal) → values_of values (replicate n l) ≡ replicate n (value_of values l)
values-replicate values zero l = refl
values-replicate values (suc n) l = ap (λ bs. value_of values l ∷ bs) (values-replicate values n l)

pub against-filled : (values : List Bool) (a above r : List Literal) (n : ℕ) (fill : Literal) → above ≡ replicate n fill → r ≡ a ++ above
    → number_against (value_of values fill) (values_of values r) ≡ number_against (value_of values fill) (values_of values a)
against-filled values a above r n fill is_above is =
    let f = value_of values fill in
    ap (λ l. number_against f (values_of values l)) (is ∙ ap (λ l. a ++ l) is_above)
    ∙ ap (number_against f) (map-append (value_of values) a (replicate n fill) ∙ ap (λ bs. values_of values a ++ bs) (values-replicate values n fill))
    ∙ against-append f (values_of values a) n

small_too : (m n i j : ℕ) → m ≤ n → i ≤ j → n < 2 ^ i → m < 2 ^ j
small_too m n i j l h k = omega (arith, pow_mono h, k, l)

-- a result whose bits differ from those of the filling as a number made of the operand says
pub by_filling : (values : List Bool) (a r : List Literal) (fill : Literal) (copy_sign : Bool) (made : ℕ → ℕ) → ((n : ℕ) → made n ≤ n) → 0 < length a → length a ≤ length r
    → value_of values fill ≡ (copy_sign && top (values_of values a))
    → number_against (value_of values fill) (values_of values r) ≡ made (number_against (value_of values fill) (values_of values a))
    → (copy_sign ≡ false → unsigned values r ≡ made (unsigned values a))
    × (copy_sign ≡ true → signed values r ≡ complement_if (top (values_of values a)) (made (number_against (top (values_of values a)) (values_of values a))))
by_filling values a r fill copy_sign made shrinks h wider fills same = (zeros, signs)
  where
    zeros : copy_sign ≡ false → unsigned values r ≡ made (unsigned values a)
    zeros e =
        let f : value_of values fill ≡ false = fills ∙ ap (λ b. b && top (values_of values a)) e in
        sym (against-false (values_of values r)) ∙ subst (λ b. number_against b (values_of values r) ≡ made (number_against b (values_of values a))) f same ∙ ap made (against-false (values_of values a))

    signs : copy_sign ≡ true → signed values r ≡ complement_if (top (values_of values a)) (made (number_against (top (values_of values a)) (values_of values a)))
    signs e =
        let t = top (values_of values a) in
        let f : value_of values fill ≡ t = fills ∙ ap (λ b. b && t) e in
        let k = subst (λ b. number_against b (values_of values r) ≡ made (number_against b (values_of values a))) f same in
        let a_len : length (values_of values a) ≡ length a = length-map a (value_of values) in
        let r_len : length (values_of values r) ≡ length r = length-map r (value_of values) in
        let small : number_against t (values_of values r) < 2 ^ (length (values_of values r) - 1) =
        subst (λ m. m < 2 ^ (length (values_of values r) - 1)) (sym k)
        (small_too (made (number_against t (values_of values a))) (number_against t (values_of values a)) (length (values_of values a) - 1) (length (values_of values r) - 1) (shrinks (number_against t (values_of values a))) (omega (arith, a_len, r_len)) (against_top (values_of values a) (omega (arith, a_len)))) in
        signed_is t (values_of values r) (omega (arith, r_len)) small ∙ ap (complement_if t) k

pub signed_by_sign : (values : List Bool) (a : List Literal) → 0 < length a → signed values a ≡ complement_if (top (values_of values a)) (number_against (top (values_of values a)) (values_of values a))
signed_by_sign values a h = signed_by_top (values_of values a) (omega (arith, length-map a (value_of values)))

-- a vector with more places on top
pub extended : (values : List Bool) (a above r : List Literal) (n : ℕ) (fill : Literal) (copy_sign : Bool) → 0 < length a → above ≡ replicate n fill → r ≡ a ++ above
    → value_of values fill ≡ (copy_sign && top (values_of values a))
    → (copy_sign ≡ false → unsigned values r ≡ unsigned values a) × (copy_sign ≡ true → signed values r ≡ signed values a)
extended values a above r n fill copy_sign h is_above is fills =
    let all = by_filling values a r fill copy_sign (λ m. m) (λ m. omega arith) h (omega (arith, ap length is, length-append a above)) fills (against-filled values a above r n fill is_above is) in
    (all.0, λ e. all.1 e ∙ sym (signed_by_sign values a h))

-- a signed number by its low bits and the highest
signed_low : (bs : List Bool) → 0 < length bs → signed_number bs ≡ pos (number (take (length bs - 1) bs)) -ℤ pos (2 ^ (length bs - 1) * digit (top bs))
signed_low bs h =
    by (top bs) (number bs) (number (take (length bs - 1) bs)) (2 ^ (length bs - 1)) (2 ^ length bs) (number_by_top bs h)
    (ap (λ n. 2 ^ n) (let e : length bs ≡ (length bs - 1) + 1 = omega arith in e) ∙ pow_more (length bs - 1))
  where
    by : (t : Bool) (n l p w : ℕ) → n ≡ l + p * digit t → w ≡ 2 * p → pos n -ℤ pos (cond t w 0) ≡ pos l -ℤ pos (p * digit t)
    by true n l p w e f = omega (arith, ints, e, f)
    by false n l p w e f = omega (arith, ints, e)

lower_by_sign : (s t : Bool) (l m p : ℕ) (x y : ℤ) → l < p → m < p → x ≡ pos l -ℤ pos (p * digit s) → y ≡ pos m -ℤ pos (p * digit t) → int_lt x y ≡ ltb (l + p * digit t) (m + p * digit s)
lower_by_sign true true l m p x y h k e f = grind (arith, ints, nat_tests)
lower_by_sign true false l m p x y h k e f = grind (arith, ints, nat_tests)
lower_by_sign false true l m p x y h k e f = grind (arith, ints, nat_tests)
lower_by_sign false false l m p x y h k e f = grind (arith, ints, nat_tests)

low_part : (values : List Bool) (a : List Literal) → values_of values (take (length a - 1) a) ≡ take (length (values_of values a) - 1) (values_of values a)
low_part values a = sym (ap (λ n. take (n - 1) (values_of values a)) (length-map a (value_of values)) ∙ take-map (value_of values) (length a - 1) a)

pub top_value : (values : List Bool) (a : List Literal) (x : Literal) → 0 < length a → x ≡ get_or a (length a - 1) always → top (values_of values a) ≡ value_of values x
top_value values a x h at =
    ap (λ n. get_or (values_of values a) (n - 1) false) (length-map a (value_of values))
    ∙ get_or-map (value_of values) a (length a - 1) always false (omega arith) ∙ ap (value_of values) (sym at)

signed_parts : (values : List Bool) (a : List Literal) (x : Literal) → 0 < length a → x ≡ get_or a (length a - 1) always
    → signed values a ≡ pos (unsigned values (take (length a - 1) a)) -ℤ pos (2 ^ (length a - 1) * digit (value_of values x))
signed_parts values a x h at =
    let len : length (values_of values a) ≡ length a = length-map a (value_of values) in
    signed_low (values_of values a) (omega (arith, len))
    ∙ (λ i. pos (number (sym (low_part values a) i)) -ℤ pos (2 ^ (len i - 1) * digit (top_value values a x h at i)))

exchanged : (values : List Bool) (a first : List Literal) (y : Literal) → first ≡ take (length a - 1) a ++ y ∷ []
    → unsigned values first ≡ unsigned values (take (length a - 1) a) + 2 ^ (length a - 1) * digit (value_of values y)
exchanged values a first y is =
    ap (unsigned values) is ∙ unsigned-push values (take (length a - 1) a) y
    ∙ ap (λ n. unsigned values (take (length a - 1) a) + 2 ^ n * digit (value_of values y)) (length-take-le (length a - 1) a (omega arith))

-- signed order is the order of the numbers with their highest bits exchanged
pub signed_order : (values : List Bool) (a b first second : List Literal) (x y : Literal) → 0 < length a → length a ≡ length b
    → x ≡ get_or a (length a - 1) always → y ≡ get_or b (length b - 1) always
    → first ≡ take (length a - 1) a ++ y ∷ [] → second ≡ take (length b - 1) b ++ x ∷ []
    → ltb (unsigned values first) (unsigned values second) ≡ int_lt (signed values a) (signed values b)
signed_order values a b first second x y h same at_a at_b is_first is_second =
    let p = 2 ^ (length a - 1) in
    let l = unsigned values (take (length a - 1) a) in
    let m = unsigned values (take (length b - 1) b) in
    let width : 2 ^ (length b - 1) ≡ p = ap (λ n. 2 ^ (n - 1)) (sym same) in
    sym (lower_by_sign (value_of values x) (value_of values y) l m p (signed values a) (signed values b)
    (below a) (subst (λ q. m < q) width (below b))
    (signed_parts values a x h at_a) (signed_parts values b y (omega (arith, same)) at_b ∙ ap (λ q. pos m -ℤ pos (q * digit (value_of values y))) width)
    ∙ sym (λ i. ltb (exchanged values a first y is_first i) ((exchanged values b second x is_second ∙ ap (λ q. m + q * digit (value_of values x)) width) i)))
  where
    below : (c : List Literal) → unsigned values (take (length c - 1) c) < 2 ^ (length c - 1)
    below c = subst (λ n. unsigned values (take (length c - 1) c) < 2 ^ n) (length-take-le (length c - 1) c (omega arith)) (unsigned-below values (take (length c - 1) c))
