-- Numbers of lists of truth values, lowest bit first.
use Rattle.std.proofs.Common.{◌≡◌, ℕ, zero, suc, ◌+◌, ◌*◌, ◌^◌, ◌<◌, ◌≤◌, Bool, true, false, cond, ◌&&◌, not, List, [], ◌∷◌, ◌++◌, length, get_or, take, refl, sym, ap, ◌∙◌, subst, add-one, eqb, leb, ltb, ◌%◌, replicate, arith}
use Rattle.std.proofs.lemmas.List.{map-append, length-map, take_more, length-take-le}
use Rattle.std.proofs.lemmas.Nat.{mod-mul-add}
use Rattle.gates.specs.declared.node.Node.{Node}
use Rattle.gates.proofs.Meaning.{value_of-constant}
use Rattle.std.proofs.lemmas.Bool.{leb-true, leb-false, le-leb, lt-leb}
use Rattle.std.proofs.lemmas.Bool.Decides.{nat_tests}
use Rattle.std.proofs.lemmas.Grind.{pow_more as power_step}
use Rattle.std.proofs.Math.Nat.{mul_comm}
use Rattle.gates.specs.Literal.{Literal, negated, always}
use Rattle.gates.specs.Valuation.{value_of, values_of, IsValuation}
use Rattle.word_bits.specs.Number.{digit, number, xor, carry}
use Rattle.word_bits.specs.Words.{unsigned}

pub pow_more : (n : ℕ) → 2 ^ (n + 1) ≡ 2 * 2 ^ n
pow_more n = power_step 2 n ∙ mul_comm (2 ^ n) 2

pub times_sum : (p a b : ℕ) → p * (a + b) ≡ p * a + p * b
times_sum p a b = grind arith

pub times_twice : (p a : ℕ) → p * (2 * a) ≡ 2 * p * a
times_twice p a = grind arith

pub number-append : (xs ys : List Bool) → number (xs ++ ys) ≡ number xs + 2 ^ length xs * number ys
number-append [] ys = omega arith
number-append (x ∷ xs) ys =
    let e = number-append xs ys in
    let p : 2 ^ suc (length xs) ≡ 2 * 2 ^ length xs = ap (λ n. 2 ^ n) (sym (add-one (length xs))) ∙ pow_more (length xs) in
    rw (e, p) (step (digit x) (number xs) (2 ^ length xs) (number ys))
  where
    step : (d n p m : ℕ) → d + 2 * (n + p * m) ≡ d + 2 * n + 2 * p * m
    step d n p m = grind arith

pub number-below : (xs : List Bool) → number xs < 2 ^ length xs
number-below [] = omega arith
number-below (x ∷ xs) =
    let e = number-below xs in
    let p : 2 ^ suc (length xs) ≡ 2 * 2 ^ length xs = ap (λ n. 2 ^ n) (sym (add-one (length xs))) ∙ pow_more (length xs) in
    rw p (by x (number xs) (2 ^ length xs) e)
  where
    by : (x : Bool) (n p : ℕ) → n < p → digit x + 2 * n < 2 * p
    by true n p h = omega arith
    by false n p h = omega arith

module _ (values : List Bool) where
  pub unsigned-append : (xs ys : List Literal) → unsigned values (xs ++ ys) ≡ unsigned values xs + 2 ^ length xs * unsigned values ys
  unsigned-append xs ys =
      ap number (map-append (value_of values) xs ys) ∙ number-append (values_of values xs) (values_of values ys)
      ∙ ap (λ n. unsigned values xs + 2 ^ n * unsigned values ys) (length-map xs (value_of values))

  pub unsigned-push : (xs : List Literal) (y : Literal) → unsigned values (xs ++ y ∷ []) ≡ unsigned values xs + 2 ^ length xs * digit (value_of values y)
  unsigned-push xs y = unsigned-append xs (y ∷ []) ∙ ap (λ n. unsigned values xs + 2 ^ length xs * n) (let e : digit (value_of values y) + 2 * 0 ≡ digit (value_of values y) = omega arith in e)

  pub unsigned-more : (xs : List Literal) (i : ℕ) → i < length xs → unsigned values (take (i + 1) xs) ≡ unsigned values (take i xs) + 2 ^ i * digit (value_of values (get_or xs i always))
  unsigned-more xs i h =
      ap (unsigned values) (take_more xs i always h) ∙ unsigned-push (take i xs) (get_or xs i always)
      ∙ ap (λ n. unsigned values (take i xs) + 2 ^ n * digit (value_of values (get_or xs i always))) (length-take-le i xs (omega arith))

  pub unsigned-below : (xs : List Literal) → unsigned values xs < 2 ^ length xs
  unsigned-below xs = subst (λ n. unsigned values xs < 2 ^ n) (length-map xs (value_of values)) (number-below (values_of values xs))

-- one bit of a sum
full_adder : (a b c : Bool) → digit (xor (xor a b) c) + 2 * digit (carry a b c) ≡ digit a + digit b + digit c
full_adder true true true = refl
full_adder true true false = refl
full_adder true false true = refl
full_adder true false false = refl
full_adder false true true = refl
full_adder false true false = refl
full_adder false false true = refl
full_adder false false false = refl

scaled : (p s a b d bit x y c c' : ℕ) → bit + 2 * c' ≡ x + y + c → s + p * c ≡ a + b + d → s + p * bit + 2 * p * c' ≡ a + p * x + (b + p * y) + d
scaled p s a b d bit x y c c' h k =
    let e = ap (λ n. p * n) h in
    omega (arith, e, times_sum p bit (2 * c'), times_twice p c', times_sum p (x + y) c, times_sum p x y, k)

pub add_more : (values : List Bool) (a b sum : List Literal) (i d : ℕ) (x y bit c c' : Literal)
    → i < length a → i < length b → length sum ≡ i → x ≡ get_or a i always → y ≡ get_or b i always
    → value_of values bit ≡ xor (xor (value_of values x) (value_of values y)) (value_of values c)
    → value_of values c' ≡ carry (value_of values x) (value_of values y) (value_of values c)
    → unsigned values sum + 2 ^ i * digit (value_of values c) ≡ unsigned values (take i a) + unsigned values (take i b) + d
    → unsigned values (sum ++ bit ∷ []) + 2 ^ (i + 1) * digit (value_of values c') ≡ unsigned values (take (i + 1) a) + unsigned values (take (i + 1) b) + d
add_more values a b sum i d x y bit c c' in_a in_b len at_a at_b is_bit is_carry before =
    let f = (λ j. digit (is_bit j) + 2 * digit (is_carry j)) ∙ full_adder (value_of values x) (value_of values y) (value_of values c) in
    let p = unsigned-push values sum bit ∙ ap (λ n. unsigned values sum + 2 ^ n * digit (value_of values bit)) len in
    let m = unsigned-more values a i in_a ∙ ap (λ l. unsigned values (take i a) + 2 ^ i * digit (value_of values l)) (sym at_a) in
    let n = unsigned-more values b i in_b ∙ ap (λ l. unsigned values (take i b) + 2 ^ i * digit (value_of values l)) (sym at_b) in
    rw (p, m, n, pow_more i) (scaled (2 ^ i) _ _ _ d _ _ _ _ _ f before)

-- one more bit that is negated
digit-not : (b : Bool) → digit (not b) + digit b ≡ 1
digit-not true = refl
digit-not false = refl

more_inverted : (p s a x y : ℕ) → x + y ≡ 1 → s + a + 1 ≡ p → s + p * x + (a + p * y) + 1 ≡ 2 * p
more_inverted p s a x y h k = let e = ap (λ n. p * n) h in omega (arith, e, times_sum p x y, k)

pub inverted_more : (values : List Bool) (a out : List Literal) (i : ℕ) (bit : Literal) → i < length a → length out ≡ i
    → value_of values bit ≡ not (value_of values (get_or a i always))
    → unsigned values out + unsigned values (take i a) + 1 ≡ 2 ^ i
    → unsigned values (out ++ bit ∷ []) + unsigned values (take (i + 1) a) + 1 ≡ 2 ^ (i + 1)
inverted_more values a out i bit h len is before =
    let p = unsigned-push values out bit ∙ (λ j. unsigned values out + 2 ^ len j * digit (is j)) in
    rw (p, unsigned-more values a i h, pow_more i) (more_inverted (2 ^ i) _ _ _ _ (digit-not (value_of values (get_or a i always))) before)

-- one more bit of a carry
pub carry_more : (values : List Bool) (a b : List Literal) (i d : ℕ) (x y c c' : Literal) → i < length a → i < length b → d ≤ 1
    → x ≡ get_or a i always → y ≡ get_or b i always
    → value_of values c' ≡ carry (value_of values x) (value_of values y) (value_of values c)
    → value_of values c ≡ leb (2 ^ i) (unsigned values (take i a) + unsigned values (take i b) + d)
    → value_of values c' ≡ leb (2 ^ (i + 1)) (unsigned values (take (i + 1) a) + unsigned values (take (i + 1) b) + d)
carry_more values a b i d x y c c' in_a in_b small at_a at_b is before =
    let m = unsigned-more values a i in_a ∙ ap (λ l. unsigned values (take i a) + 2 ^ i * digit (value_of values l)) (sym at_a) in
    let n = unsigned-more values b i in_b ∙ ap (λ l. unsigned values (take i b) + 2 ^ i * digit (value_of values l)) (sym at_b) in
    let below_a : unsigned values (take i a) < 2 ^ i = subst (λ k. unsigned values (take i a) < 2 ^ k) (length-take-le i a (omega arith)) (unsigned-below values (take i a)) in
    let below_b : unsigned values (take i b) < 2 ^ i = subst (λ k. unsigned values (take i b) < 2 ^ k) (length-take-le i b (omega arith)) (unsigned-below values (take i b)) in
    rw (m, n, pow_more i)
    (is ∙ by (2 ^ i) _ _ below_a below_b (value_of values x) (value_of values y) (value_of values c) before)
  where
    by : (p s t : ℕ) → s < p → t < p → (x y c : Bool) → c ≡ leb p (s + t + d) → carry x y c ≡ leb (2 * p) (s + p * digit x + (t + p * digit y) + d)
    by p s t h k true true true e = sym (le-leb (2 * p) (s + p * 1 + (t + p * 1) + d) (omega arith))
    by p s t h k true true false e = sym (le-leb (2 * p) (s + p * 1 + (t + p * 1) + d) (omega arith))
    by p s t h k true false true e = let l = leb-true p (s + t + d) (sym e) in sym (le-leb (2 * p) (s + p * 1 + (t + p * 0) + d) (omega (arith, l)))
    by p s t h k true false false e = let l = leb-false p (s + t + d) (sym e) in sym (lt-leb (2 * p) (s + p * 1 + (t + p * 0) + d) (omega (arith, l)))
    by p s t h k false true true e = let l = leb-true p (s + t + d) (sym e) in sym (le-leb (2 * p) (s + p * 0 + (t + p * 1) + d) (omega (arith, l)))
    by p s t h k false true false e = let l = leb-false p (s + t + d) (sym e) in sym (lt-leb (2 * p) (s + p * 0 + (t + p * 1) + d) (omega (arith, l)))
    by p s t h k false false true e = sym (lt-leb (2 * p) (s + p * 0 + (t + p * 0) + d) (omega (arith, small)))
    by p s t h k false false false e = sym (lt-leb (2 * p) (s + p * 0 + (t + p * 0) + d) (omega (arith, small)))

-- one more bit of an equality
pub same_more : (values : List Bool) (a b : List Literal) (i : ℕ) (x y : Literal) (c c' d : Bool) → i < length a → i < length b
    → x ≡ get_or a i always → y ≡ get_or b i always
    → d ≡ xor (value_of values x) (value_of values y) → c' ≡ (c && not d)
    → c ≡ eqb (unsigned values (take i a)) (unsigned values (take i b))
    → c' ≡ eqb (unsigned values (take (i + 1) a)) (unsigned values (take (i + 1) b))
same_more values a b i x y c c' d in_a in_b at_a at_b apart is before =
    let m = unsigned-more values a i in_a ∙ ap (λ l. unsigned values (take i a) + 2 ^ i * digit (value_of values l)) (sym at_a) in
    let n = unsigned-more values b i in_b ∙ ap (λ l. unsigned values (take i b) + 2 ^ i * digit (value_of values l)) (sym at_b) in
    let below_a : unsigned values (take i a) < 2 ^ i = subst (λ k. unsigned values (take i a) < 2 ^ k) (length-take-le i a (omega arith)) (unsigned-below values (take i a)) in
    let below_b : unsigned values (take i b) < 2 ^ i = subst (λ k. unsigned values (take i b) < 2 ^ k) (length-take-le i b (omega arith)) (unsigned-below values (take i b)) in
    rw (m, n)
    (is ∙ (λ j. before j && not (apart j)) ∙ by (2 ^ i) _ _ below_a below_b (value_of values x) (value_of values y))
  where
    by : (p s t : ℕ) → s < p → t < p → (x y : Bool) → (eqb s t && not (xor x y)) ≡ eqb (s + p * digit x) (t + p * digit y)
    by p s t h k true true = grind (arith, nat_tests)
    by p s t h k true false = grind (arith, nat_tests)
    by p s t h k false true = grind (arith, nat_tests)
    by p s t h k false false = grind (arith, nat_tests)

-- zeros spell 0
pub unsigned-zeros : {nodes : List Node} {values : List Bool} → IsValuation nodes values → (n : ℕ) → unsigned values (replicate n (negated always)) ≡ 0
unsigned-zeros v zero = refl
unsigned-zeros {values = values} v (suc n) = (λ i. digit ((value_of-constant v).1 i) + 2 * unsigned-zeros v n i)

-- a number below a modulus, from what it and its carry spell
pub remainder_from_carry : (s p c n : ℕ) → s < p → s + p * c ≡ n → s ≡ n % p
remainder_from_carry s p c n h e = sym (mod-mul-add c p s h) ∙ ap (λ m. m % p) (let f : c * p + s ≡ n = swap s p c n e in f)
  where
    swap : (s p c n : ℕ) → s + p * c ≡ n → c * p + s ≡ n
    swap s p c n e = omega (arith, e, mul_comm c p)

-- a carry tells which of two numbers is the greater
pub carry_tells : (a b o p : ℕ) → a < p → b < p → o + b + 1 ≡ p → not (leb p (a + o + 1)) ≡ ltb a b
carry_tells a b o p h k e = grind (arith, nat_tests)

pub digit_small : (b : Bool) → digit b ≤ 1
digit_small true = omega arith
digit_small false = omega arith

values_of-more : (values : List Bool) (xs : List Literal) (i : ℕ) (x : Literal) → i < length xs → x ≡ get_or xs i always
    → values_of values (take (i + 1) xs) ≡ values_of values (take i xs) ++ value_of values x ∷ []
values_of-more values xs i x h e =
    ap (values_of values) (take_more xs i always h) ∙ map-append (value_of values) (take i xs) (get_or xs i always ∷ [])
    ∙ ap (λ l. values_of values (take i xs) ++ value_of values l ∷ []) (sym e)

-- one more bit of a choice
pub chosen_more : (values : List Bool) (a b out : List Literal) (i : ℕ) (c : Bool) (x y bit : Literal) → i < length a → i < length b
    → x ≡ get_or a i always → y ≡ get_or b i always
    → value_of values bit ≡ cond c (value_of values x) (value_of values y)
    → values_of values out ≡ cond c (values_of values (take i a)) (values_of values (take i b))
    → values_of values (out ++ bit ∷ []) ≡ cond c (values_of values (take (i + 1) a)) (values_of values (take (i + 1) b))
chosen_more values a b out i c x y bit in_a in_b at_a at_b is before =
    map-append (value_of values) out (bit ∷ []) ∙ (λ j. before j ++ is j ∷ []) ∙ by c
  where
    by : (c : Bool) → cond c (values_of values (take i a)) (values_of values (take i b)) ++ cond c (value_of values x) (value_of values y) ∷ [] ≡ cond c (values_of values (take (i + 1) a)) (values_of values (take (i + 1) b))
    by true = sym (values_of-more values a i x in_a at_a)
    by false = sym (values_of-more values b i y in_b at_b)

-- a choice of one list, and of numbers
pub chosen_same : (c : Bool) (bs : List Bool) → bs ≡ cond c bs bs
chosen_same true bs = refl
chosen_same false bs = refl

pub number_chosen : (c : Bool) (xs ys : List Bool) → number (cond c xs ys) ≡ cond c (number xs) (number ys)
number_chosen true xs ys = refl
number_chosen false xs ys = refl

-- the carry before the first bit
pub carry_none : (b : Bool) → b ≡ leb (2 ^ 0) (0 + 0 + digit b)
carry_none true = refl
carry_none false = refl
