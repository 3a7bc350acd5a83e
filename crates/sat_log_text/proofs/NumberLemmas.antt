-- Numbers as words: the decimal texts, and no others.
use Rattle.std.proofs.Common.{◌≡◌, ◌≢◌, ℕ, zero, suc, not, ◌+◌, ◌-◌, ◌*◌, ◌/◌, ◌<◌, ◌≤◌, ◌^◌, Bool, true, false, cond, eqb, ltb, ◌&&◌, ◌⊎◌, inl, inr, List, [], ◌∷◌, length, get_or, take, refl, ap, sym, subst, ◌∙◌, arith, decimal}
use Rattle.std.specs.Prelude.{Option, Some, None, IfSome, IfNone}
use Rattle.std.specs.Char.{digit_value}
use Rattle.std.specs.Str.Parse.{AllDigits, IsNumeral, digits_value}
use Rattle.std.proofs.lemmas.Int.Digits.{digits_value_more}
use Rattle.std.proofs.lemmas.Fmt.{decimal_is_IsNumeral, decimal-digits_value, first_decimal, decimal_digit}
use Rattle.std.proofs.lemmas.Str.Parse.{IsNumeralModel, numerals_by_value, tells_digits, digits_value-take-le}
use Rattle.std.proofs.lemmas.Bool.{false≢true, eqb-true, eq-eqb, ltb-true, ne_eqb, cases_lt, lt-ltb, and_parts}
use Rattle.sat_log_text.specs.Reading.{same_bytes, is_plain, number_of}

pub same_bytes_refl : (bs : List ℕ) → same_bytes bs bs ≡ true
same_bytes_refl [] = refl
same_bytes_refl (b ∷ bs) = rw (eq-eqb b b refl) (same_bytes_refl bs)

pub same_bytes_same : (bs cs : List ℕ) → same_bytes bs cs ≡ true → bs ≡ cs
same_bytes_same [] [] e = refl
same_bytes_same [] (c ∷ cs) e = absurd (false≢true e)
same_bytes_same (b ∷ bs) [] e = absurd (false≢true e)
same_bytes_same (b ∷ bs) (c ∷ cs) e =
    let both = and_parts (eqb b c) (same_bytes bs cs) e in
    let first : b ≡ c = eqb-true b c both.0 in
    let rest : bs ≡ cs = same_bytes_same bs cs both.1 in
    cc

-- the number of a word that is the decimal text of one
pub number_of-decimal : (n : ℕ) → n < 2 ^ 63 → number_of (decimal n) ≡ Some n
number_of-decimal n h =
    let big : n < 2 ^ 64 = omega arith in
    let value : digits_value 10 (decimal n) ≡ n = (decimal_is_IsNumeral n big).1 in
    ap (λ v. cond (same_bytes (decimal v) (decimal n) && ltb v (2 ^ 63)) (Some v) None) value
    ∙ ap (λ b. cond (b && ltb n (2 ^ 63)) (Some n) None) (same_bytes_refl (decimal n))
    ∙ ap (λ b. cond b (Some n) None) (lt-ltb n (2 ^ 63) h)

number_if-sound : (a b : Bool) (m n : ℕ) → cond (a && b) (Some m) None ≡ Some n → (a ≡ true) × (b ≡ true) × (m ≡ n)
number_if-sound true true m n e = (refl, refl, cc)
number_if-sound true false m n e = cc
number_if-sound false b m n e = cc

pub number_of-sound : (word : List ℕ) (n : ℕ) → number_of word ≡ Some n → (word ≡ decimal n) × (n < 2 ^ 63)
number_of-sound word n e =
    let parts = number_if-sound (same_bytes (decimal (digits_value 10 word)) word) (ltb (digits_value 10 word) (2 ^ 63)) (digits_value 10 word) n e in
    let below : digits_value 10 word < 2 ^ 63 = ltb-true (digits_value 10 word) (2 ^ 63) parts.1 in
    (sym (same_bytes_same (decimal (digits_value 10 word)) word parts.0) ∙ ap decimal parts.2, subst (λ v. v < 2 ^ 63) parts.2 below)

-- a word that is not the decimal text of a small number
pub number_of-none : (word : List ℕ) → ((n : ℕ) → n < 2 ^ 63 → word ≢ decimal n) → number_of word ≡ None
number_of-none word h = by_value (number_of word) refl
  where
    by_value : (o : Option ℕ) → number_of word ≡ o → number_of word ≡ None
    by_value None e = e
    by_value (Some n) e =
        let sound = number_of-sound word n e in
        absurd (h n sound.1 sound.0)

own : IsNumeralModel (AllDigits 10) (digits_value 10)
own = numerals_by_value (AllDigits 10) tells_digits

plain_parts : (word : List ℕ) → is_plain word ≡ true → (0 < length word) × (get_or word 0 0 ≡ 48 → length word ≡ 1)
plain_parts [] e = absurd (false≢true e)
plain_parts (b ∷ []) e = (omega arith, λ _. refl)
plain_parts (b ∷ c ∷ word) e = (omega arith, λ zero. absurd (false≢true (sym (ap not (eq-eqb b 48 zero)) ∙ e)))

-- a word of digits without a leading zero
pub number_of-digits : (word : List ℕ) (v : ℕ) → is_plain word ≡ true → AllDigits 10 word → v ≡ digits_value 10 word → v < 2 ^ 63 → number_of word ≡ Some v
number_of-digits word v plain digits value small =
    let parts = plain_parts word plain in
    let below : digits_value 10 word < 2 ^ 63 = subst (λ n. n < 2 ^ 63) value small in
    let big : digits_value 10 word < 2 ^ 64 = omega arith in
    let text : decimal (digits_value 10 word) ≡ word = decimal-digits_value own word digits parts.0 parts.1 big in
    let own_text : decimal v ≡ word = ap decimal value ∙ text in
    subst (λ w. number_of w ≡ Some v) own_text (number_of-decimal v small)

AllDigits-at : (ds : List ℕ) (i : ℕ) → AllDigits 10 ds → i < length ds → digit_value (get_or ds i 0) < 10
AllDigits-at [] i h below = absurd (omega arith)
AllDigits-at (d ∷ ds) zero h below = h.0
AllDigits-at (d ∷ ds) (suc i) h below = AllDigits-at ds i h.1 (omega arith)

numeral : (word : List ℕ) (n : ℕ) → n < 2 ^ 63 → word ≡ decimal n → IsNumeral 10 word × (digits_value 10 word ≡ n)
numeral word n small e =
    let big : n < 2 ^ 64 = omega arith in
    subst (λ w. IsNumeral 10 w × (digits_value 10 w ≡ n)) (sym e) (decimal_is_IsNumeral n big)

-- a word with another byte than a digit
pub bad_digit : (word : List ℕ) (i : ℕ) → i < length word → 10 ≤ digit_value (get_or word i 0) → (n : ℕ) → n < 2 ^ 63 → word ≢ decimal n
bad_digit word i h bad n small e =
    let good = AllDigits-at word i (numeral word n small e).0.1 h in
    absurd (omega arith)

-- a word of which a front is too great
pub too_great : (word : List ℕ) (i d : ℕ) → i < length word → d ≡ digit_value (get_or word i 0) → 2 ^ 63 ≤ digits_value 10 (take i word) * 10 + d → (n : ℕ) → n < 2 ^ 63 → word ≢ decimal n
too_great word i d h digit great n small e =
    let value : digits_value 10 word ≡ n = (numeral word n small e).1 in
    let more : digits_value 10 (take (i + 1) word) ≡ digits_value 10 (take i word) * 10 + digit_value (get_or word i 0) = digits_value_more 10 word i h in
    let front : digits_value 10 (take (i + 1) word) ≤ digits_value 10 word = digits_value-take-le 10 word (i + 1) (omega arith) in
    absurd (omega arith)

-- a word with a leading zero, or none at all, writes no number
pub not_plain : (word : List ℕ) → is_plain word ≡ false → (n : ℕ) → n < 2 ^ 63 → word ≢ decimal n
not_plain word plain n small e = by_size (cases_lt 0 n)
  where
    first_nonzero : (w : List ℕ) → 0 < length w → 48 < get_or w 0 0 → is_plain w ≡ true
    first_nonzero [] some h = absurd (omega arith)
    first_nonzero (b ∷ []) some h = refl
    first_nonzero (b ∷ c ∷ w) some h =
        let other : b ≡ 48 → ⊥ = (λ same. absurd (omega arith)) in
        ap not (ne_eqb b 48 other)

    by_size : (0 < n) ⊎ (n ≤ 0) → ⊥
    by_size (inl positive) =
        let big : n < 2 ^ 64 = omega arith in
        let some : 0 < length word = (numeral word n small e).0.0 in
        let first : 48 < get_or word 0 0 = subst (λ w. 48 < get_or w 0 0) (sym e) (first_decimal n positive big) in
        false≢true (sym plain ∙ first_nonzero word some first)
    by_size (inr none) =
        let zero_ : n ≡ 0 = omega arith in
        let text : word ≡ 48 ∷ [] = e ∙ ap decimal zero_ ∙ decimal_digit 0 (omega arith) in
        false≢true (sym plain ∙ ap is_plain text)

-- what the digits give is the number, where there is no leading zero
pub digits_answer : (word : List ℕ) (o : Option ℕ) → is_plain word ≡ true → IfSome o (λ v. AllDigits 10 word × (v ≡ digits_value 10 word) × (v < 2 ^ 63)) → IfNone o ((n : ℕ) → n < 2 ^ 63 → word ≢ decimal n) → o ≡ number_of word
digits_answer word None plain some none = sym (number_of-none word none)
digits_answer word (Some v) plain some none = sym (number_of-digits word v plain some.0 some.1 some.2)

pub at_none : {T P : Type 0} (o : Option T) → P → IfNone o P
at_none None p = p
at_none (Some x) p = tt

-- one more digit passes the greatest number, or not
pub past_greatest : (value d : ℕ) → d < 10 → (9223372036854775807 - d) / 10 < value → 2 ^ 63 ≤ value * 10 + d
past_greatest value d h over = omega arith

pub within_greatest : (value d : ℕ) → d < 10 → value ≤ (9223372036854775807 - d) / 10 → value * 10 + d < 2 ^ 63
within_greatest value d h fits = omega arith
