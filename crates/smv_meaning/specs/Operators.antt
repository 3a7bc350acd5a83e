-- What each operator makes of the values of its operands: one value, or none.
use Rattle.std.specs.Prelude.{ℕ, zero, suc, ◌+◌, ◌-◌, ◌*◌, ◌/◌, ◌%◌, ◌^◌, Bool, true, false, not, ◌&&◌, ◌||◌, ◌==◌, nat_le, if◌then◌else◌, List, [], ◌∷◌, ℤ, pos, negsuc, neg_ℤ, ◌+ℤ◌, ◌-ℤ◌, ◌*ℤ◌, bit_and, bit_or, bit_xor, int_div, int_rem, int_lt}
use Rattle.std.specs.List.{list_any}
use Rattle.std.specs.Ordering.{int_eq}
use Rattle.std.specs.Int.{int_div_euclid}
use Rattle.std.specs.Str.{bytes_eq}
use Rattle.smv_tree.specs.Word.{Word, is_high, word_number}
use Rattle.smv_tree.specs.declared.value.Value.{Value}
use Rattle.smv_tree.specs.declared.value.Value.TheVariants.{Truth, Int, Sym, Word as Bits}
use Rattle.smv_tree.specs.declared.expr.Op1.{Op1}
use Rattle.smv_tree.specs.declared.expr.Op1.TheVariants as one
use Rattle.smv_tree.specs.declared.expr.Op2.{Op2}
use Rattle.smv_tree.specs.declared.expr.Op2.TheVariants as two

-- z modulo 2 to the n
abbrev pub wrap : ℕ → ℤ → ℕ
wrap n (pos a) = a % 2 ^ n
wrap n (negsuc a) = 2 ^ n - 1 - a % 2 ^ n

-- the word of this sign and width whose number is z modulo 2 to the width
abbrev pub word_of : Bool → ℕ → ℤ → Word
word_of signed width z = record { signed = signed; width = width; bits = wrap width z }

-- these bits in a word like w
abbrev pub with_bits : Word → ℕ → Word
with_bits w bits = record { signed = w.signed; width = w.width; bits = bits }

-- each bit of a word turned over
abbrev pub turned : Word → ℕ → ℕ
turned w bits = 2 ^ w.width - 1 - bits

abbrev pub one_word : Op1 → Word → List Value
one_word one.Not w = Bits (with_bits w (turned w w.bits)) ∷ []
one_word one.Neg w = Bits (word_of w.signed w.width (neg_ℤ (word_number w))) ∷ []
one_word one.Bool w = Truth (not (w.bits == 0)) ∷ []
one_word one.Signed w = Bits (record { signed = true; width = w.width; bits = w.bits }) ∷ []
one_word one.Unsigned w = Bits (record { signed = false; width = w.width; bits = w.bits }) ∷ []
one_word one.ToInt w = Int (word_number w) ∷ []
one_word one.Word1 w = []

abbrev pub one_truth : Op1 → Bool → List Value
one_truth one.Not b = Truth (not b) ∷ []
one_truth one.Word1 b = Bits (record { signed = false; width = 1; bits = if b then 1 else 0 }) ∷ []
one_truth one.Bool b = Truth b ∷ []
one_truth one.ToInt b = Int (pos (if b then 1 else 0)) ∷ []
one_truth _ b = []

abbrev pub one_int : Op1 → ℤ → List Value
one_int one.Neg z = Int (neg_ℤ z) ∷ []
one_int one.Bool z = Truth (not (int_eq z (pos 0))) ∷ []
one_int one.ToInt z = Int z ∷ []
one_int _ z = []

-- an operator of one operand
abbrev pub one_value : Op1 → Value → List Value
one_value o (Truth b) = one_truth o b
one_value o (Int z) = one_int o z
one_value o (Bits w) = one_word o w
one_value o (Sym n) = []

abbrev pub same_truth : Bool → Bool → Bool
same_truth a b = (a && b) || (not a && not b)

-- an unsigned word is never a signed one, nor one of another width
abbrev pub same_word : Word → Word → Bool
same_word a b = same_truth a.signed b.signed && (a.width == b.width && a.bits == b.bits)

-- the two values are the same
abbrev pub same_value : Value → Value → Bool
same_value (Truth a) (Truth b) = same_truth a b
same_value (Int a) (Int b) = int_eq a b
same_value (Sym a) (Sym b) = bytes_eq a b
same_value (Bits a) (Bits b) = same_word a b
same_value _ _ = false

abbrev pub two_truths : Op2 → Bool → Bool → List Value
two_truths two.And a b = Truth (a && b) ∷ []
two_truths two.Or a b = Truth (a || b) ∷ []
two_truths two.Xor a b = Truth (not (same_value (Truth a) (Truth b))) ∷ []
two_truths two.Xnor a b = Truth (same_value (Truth a) (Truth b)) ∷ []
two_truths two.Iff a b = Truth (same_value (Truth a) (Truth b)) ∷ []
two_truths two.Implies a b = Truth (not a || b) ∷ []
two_truths _ a b = []

-- a quotient or remainder, which truncates towards zero; none where the divisor is zero
abbrev pub unless_zero : ℤ → List Value → List Value
unless_zero z vs = if int_eq z (pos 0) then [] else vs

abbrev pub two_ints : Op2 → ℤ → ℤ → List Value
two_ints two.Add a b = Int (a +ℤ b) ∷ []
two_ints two.Sub a b = Int (a -ℤ b) ∷ []
two_ints two.Mul a b = Int (a *ℤ b) ∷ []
two_ints two.Div a b = unless_zero b (Int (int_div a b) ∷ [])
two_ints two.Mod a b = unless_zero b (Int (int_rem a b) ∷ [])
two_ints two.Lt a b = Truth (int_lt a b) ∷ []
two_ints two.Gt a b = Truth (int_lt b a) ∷ []
two_ints two.Le a b = Truth (not (int_lt b a)) ∷ []
two_ints two.Ge a b = Truth (not (int_lt a b)) ∷ []
two_ints _ a b = []

-- a shift by an amount that is not negative and at most the width; a signed word goes right with
-- copies of its sign
abbrev pub shifted : Op2 → Word → ℤ → List Value
shifted two.Shl w (pos k) =
    if nat_le k w.width then Bits (with_bits w (w.bits * 2 ^ k % 2 ^ w.width)) ∷ [] else []
shifted two.Shr w (pos k) =
    if nat_le k w.width
    then Bits (word_of w.signed w.width (int_div_euclid (word_number w) (pos (2 ^ k)))) ∷ []
    else []
shifted _ w _ = []

-- arithmetic and order of two words go by their numbers, the rest by their bits
abbrev pub two_words : Op2 → Word → Word → List Value
two_words two.Concat a b =
    Bits (record { signed = false; width = a.width + b.width; bits = a.bits * 2 ^ b.width + b.bits }) ∷ []
two_words two.Add a b = Bits (word_of a.signed a.width (word_number a +ℤ word_number b)) ∷ []
two_words two.Sub a b = Bits (word_of a.signed a.width (word_number a -ℤ word_number b)) ∷ []
two_words two.Mul a b = Bits (word_of a.signed a.width (word_number a *ℤ word_number b)) ∷ []
two_words two.Div a b =
    unless_zero (word_number b)
    (Bits (word_of a.signed a.width (int_div (word_number a) (word_number b))) ∷ [])
two_words two.Mod a b =
    unless_zero (word_number b)
    (Bits (word_of a.signed a.width (int_rem (word_number a) (word_number b))) ∷ [])
two_words two.Shl a b = shifted two.Shl a (word_number b)
two_words two.Shr a b = shifted two.Shr a (word_number b)
two_words two.Lt a b = Truth (int_lt (word_number a) (word_number b)) ∷ []
two_words two.Gt a b = Truth (int_lt (word_number b) (word_number a)) ∷ []
two_words two.Le a b = Truth (not (int_lt (word_number b) (word_number a))) ∷ []
two_words two.Ge a b = Truth (not (int_lt (word_number a) (word_number b))) ∷ []
two_words two.And a b = Bits (with_bits a (bit_and a.bits b.bits)) ∷ []
two_words two.Or a b = Bits (with_bits a (bit_or a.bits b.bits)) ∷ []
two_words two.Xor a b = Bits (with_bits a (bit_xor a.bits b.bits)) ∷ []
two_words two.Xnor a b = Bits (with_bits a (turned a (bit_xor a.bits b.bits))) ∷ []
two_words two.Iff a b = Bits (with_bits a (turned a (bit_xor a.bits b.bits))) ∷ []
two_words two.Implies a b = Bits (with_bits a (bit_or (turned a a.bits) b.bits)) ∷ []
two_words _ a b = []

-- an operator that treats values by their kinds
abbrev pub by_kind : Op2 → Value → Value → List Value
by_kind o (Truth a) (Truth b) = two_truths o a b
by_kind o (Int a) (Int b) = two_ints o a b
by_kind o (Bits a) (Bits b) = two_words o a b
by_kind o (Bits a) (Int b) = shifted o a b
by_kind o _ _ = []

-- an operator of two operands that each have one value
abbrev pub two_values : Op2 → Value → Value → List Value
two_values two.Eq a b = Truth (same_value a b) ∷ []
two_values two.Ne a b = Truth (not (same_value a b)) ∷ []
two_values o a b = by_kind o a b

-- the one value on the left is among those on the right; none where the left has not one, or the
-- right has none
abbrev pub member : List Value → List Value → List Value
member (a ∷ []) (b ∷ right) = Truth (list_any (same_value a) (b ∷ right)) ∷ []
member left right = []

-- the bits from high down to low
abbrev pub selected : ℕ → ℕ → Value → List Value
selected high low (Bits w) =
    let width : ℕ = high + 1 - low in
    Bits (record { signed = false; width = width; bits = w.bits / 2 ^ low % 2 ^ width }) ∷ []
selected high low _ = []

-- n bits, and the sign bit kept where a signed word loses some
abbrev pub resized : ℕ → Word → Word
resized n w =
    if nat_le w.width n then word_of w.signed n (word_number w)
    else if w.signed then (record {
      signed = true;
      width = n;
      bits = (if is_high w then 2 ^ (n - 1) else 0) + w.bits % 2 ^ (n - 1);
    })
    else record { signed = false; width = n; bits = w.bits % 2 ^ n }

-- `resize` to n bits, or `extend` by n bits
abbrev pub widened : Bool → ℕ → Value → List Value
widened true n (Bits w) = Bits (resized n w) ∷ []
widened false n (Bits w) = Bits (word_of w.signed (w.width + n) (word_number w)) ∷ []
widened resize n _ = []

-- the integers from low on, so many
abbrev pub span_from : ℤ → ℕ → List Value
span_from low zero = []
span_from low (suc n) = Int low ∷ span_from (low +ℤ pos 1) n

-- how many integers there are from low to high
abbrev pub span_length : ℤ → ℤ → ℕ
span_length low high = if int_lt high low then 0 else wrap 65 (high -ℤ low) + 1

-- the number of those that are true, if each is a truth value
abbrev pub counted : ℕ → List (List Value) → List Value
counted n [] = Int (pos n) ∷ []
counted n ((Truth true ∷ []) ∷ rest) = counted (n + 1) rest
counted n ((Truth false ∷ []) ∷ rest) = counted n rest
counted n _ = []
