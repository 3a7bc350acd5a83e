-- Nodes give words of widths within the limits.
use Rattle.std.proofs.Common.{◌≡◌, ℕ, Bool, true, false, List, refl}
use Rattle.std.specs.Prelude.{⊤, Option, Some, None, Result, Ok, Err, if◌then◌else◌, nat_le, nat_lt, ◌&&◌, ◌==◌, ◌+◌, ◌-◌, ℤ}
use Rattle.smv_tree.specs.declared.expr.Op1.{Op1}
use Rattle.smv_tree.specs.declared.expr.Op1.TheVariants as one
use Rattle.smv_tree.specs.declared.expr.Op2.{Op2}
use Rattle.smv_tree.specs.declared.expr.Op2.TheVariants as two
use Rattle.smv_kinds.specs.declared.interval.Interval.{Interval}
use Rattle.smv_kinds.specs.declared.sort.Sort.{Sort}
use Rattle.smv_kinds.specs.declared.sort.Sort.TheVariants.{Boolean, Integer, Word, Symbolic, Mixed, Instance}
use Rattle.smv_kinds.specs.declared.typing.Typing.{Typing}
use Rattle.smv_kinds.specs.declared.typing.NodeFault.{NodeFault}
use Rattle.smv_kinds.specs.declared.typing.NodeFault.TheVariants as faults
use Rattle.smv_kinds.specs.Sorts.{agree, joined}
use Rattle.smv_kinds.specs.Results.{node_of, integers_of, integers, words, number_of_word, is_width, given, unless}
use Rattle.smv_kinds.specs.Intervals.{of_word, product, quotient, remainder, sum, difference}
use Rattle.smv_kinds.specs.Operators.{on_value, on_two, arithmetic, ordered, bitwise, shifted, concatenated, taken, one_typing, two_typing}
use Rattle.smv_kinds.specs.Nodes.{of_word_operand, bits_of, bits_in, select_typing, widen_typing, next_typing, set_typing, cases_typing, clash, no_boolean, some_set, has_set, together}
use Rattle.smv_kinds.specs.Widths.{HasWidth, GivesWidth}

abbrev GivesSort : Result Sort NodeFault → Type 0
GivesSort (Ok s) = HasWidth s
GivesSort (Err f) = ⊤

abbrev MayGive : Option (Result Sort NodeFault) → Type 0
MayGive (Some r) = GivesSort r
MayGive None = ⊤

tested : (b : Bool) (r s : Result Sort NodeFault) → (b ≡ true → GivesSort r) → GivesSort s → GivesSort (if b then r else s)
tested true r s h k = h refl
tested false r s h k = k

chosen : (b : Bool) (o : Option (Result Sort NodeFault)) → MayGive o → MayGive (if b then o else None)
chosen true o h = h
chosen false o h = tt

words_width : (s : Bool) (n : ℕ) → GivesSort (words s n)
words_width s n = tested (is_width n) (Ok (Word s n)) (Err faults.Width) (λ e. e) tt

pub given_width : (s : Sort) → GivesSort (given s)
given_width (Word s n) = words_width s n
given_width Boolean = tt
given_width (Integer i) = tt
given_width Symbolic = tt
given_width Mixed = tt
given_width Instance = tt

integers_of_width : (r : Result Interval ℤ) → GivesSort (integers_of r)
integers_of_width (Ok i) = tt
integers_of_width (Err z) = tt

integers_width : (i : Interval) → GivesSort (integers i)
integers_width i = integers_of_width _

number_width : (s : Bool) (n : ℕ) → GivesSort (number_of_word s n)
number_width s n = tested (nat_le 1 n && nat_le n 127) (integers (of_word s n)) (Err faults.Width) (λ e. integers_width (of_word s n)) tt

pub node_width : (is_set : Bool) (r : Result Sort NodeFault) → GivesSort r → GivesWidth (node_of is_set r)
node_width is_set (Ok s) h = h
node_width is_set (Err f) h = tt

taken_width : (o : Option (Result Sort NodeFault)) (f : NodeFault) (a s : Bool) → MayGive o → GivesWidth (taken o f a s)
taken_width None f a s h = tt
taken_width (Some r) f true s h = node_width s r h
taken_width (Some r) f false s h = tt

value_width : (o : Op1) (s : Sort) → MayGive (on_value o s)
value_width one.Not (Word s n) = words_width s n
value_width one.Neg (Integer i) = integers_width _
value_width one.Neg (Word s n) = words_width s n
value_width one.Word1 Boolean = words_width false 1
value_width one.Bool (Word false n) = chosen (n == 1) (Some (Ok Boolean)) tt
value_width one.Signed (Word s n) = words_width true n
value_width one.Unsigned (Word s n) = words_width false n
value_width one.ToInt (Word s n) = number_width s n
value_width o s = tt

arithmetic_width : (made : Interval → Interval → Interval) (a b : Sort) → MayGive (arithmetic made a b)
arithmetic_width made (Integer i) (Integer j) = integers_width _
arithmetic_width made (Word s m) (Word t n) = chosen (agree (Word s m) (Word t n)) (Some (words s m)) (words_width s m)
arithmetic_width made a b = tt

ordered_width : (a b : Sort) → MayGive (ordered a b)
ordered_width (Integer i) (Integer j) = tt
ordered_width (Word s m) (Word t n) = chosen (agree (Word s m) (Word t n)) (Some (Ok Boolean)) tt
ordered_width a b = tt

bitwise_width : (a b : Sort) → MayGive (bitwise a b)
bitwise_width Boolean Boolean = tt
bitwise_width (Word s m) (Word t n) = chosen (agree (Word s m) (Word t n)) (Some (words s m)) (words_width s m)
bitwise_width a b = tt

shifted_width : (a b : Sort) → MayGive (shifted a b)
shifted_width (Word s m) (Integer i) = words_width s m
shifted_width (Word s m) (Word false n) = words_width s m
shifted_width a b = tt

concatenated_width : (a b : Sort) → MayGive (concatenated a b)
concatenated_width (Word s m) (Word t n) = words_width false (m + n)
concatenated_width a b = tt

two_width : (o : Op2) (a b : Sort) → MayGive (on_two o a b)
two_width two.Concat a b = concatenated_width a b
two_width two.Mul a b = arithmetic_width product a b
two_width two.Div a b = arithmetic_width (λ i j. quotient i) a b
two_width two.Mod a b = arithmetic_width remainder a b
two_width two.Add a b = arithmetic_width sum a b
two_width two.Sub a b = arithmetic_width difference a b
two_width two.Shl a b = shifted_width a b
two_width two.Shr a b = shifted_width a b
two_width two.Union a b = chosen (agree a b) (Some (given (joined a b))) (given_width (joined a b))
two_width two.In a b = chosen (agree a b) (Some (Ok Boolean)) tt
two_width two.Eq a b = chosen (agree a b) (Some (Ok Boolean)) tt
two_width two.Ne a b = chosen (agree a b) (Some (Ok Boolean)) tt
two_width two.Lt a b = ordered_width a b
two_width two.Gt a b = ordered_width a b
two_width two.Le a b = ordered_width a b
two_width two.Ge a b = ordered_width a b
two_width two.And a b = bitwise_width a b
two_width two.Or a b = bitwise_width a b
two_width two.Xor a b = bitwise_width a b
two_width two.Xnor a b = bitwise_width a b
two_width two.Iff a b = bitwise_width a b
two_width two.Implies a b = bitwise_width a b

pub one_typing_width : (o : Op1) (t : Typing) → GivesWidth (one_typing o t)
unfolding one_typing
one_typing_width o t = taken_width (on_value o t.sort) _ _ _ (value_width o t.sort)

pub two_typing_width : (o : Op2) (t u : Typing) → GivesWidth (two_typing o t u)
unfolding two_typing
two_typing_width o t u = taken_width (on_two o t.sort u.sort) _ _ _ (two_width o t.sort u.sort)

pub const_width : (s : Bool) (n : ℕ) → GivesWidth (node_of false (words s n))
const_width s n = node_width false (words s n) (words_width s n)

operand_width : (f : Bool → ℕ → Result Sort NodeFault) (s : Sort) (is_set : Bool) → ((x : Bool) (n : ℕ) → GivesSort (f x n)) → GivesWidth (of_word_operand f s is_set)
operand_width f (Word x n) true h = tt
operand_width f (Word x n) false h = node_width false (f x n) (h x n)
operand_width f Boolean s h = tt
operand_width f (Integer i) s h = tt
operand_width f Symbolic s h = tt
operand_width f Mixed s h = tt
operand_width f Instance s h = tt

pub select_width : (high low : ℕ) (t : Typing) → GivesWidth (select_typing high low t)
select_width high low t = operand_width (λ x n. bits_of high low n) t.sort t.is_set (λ x n. tested (nat_le low high && nat_lt high n) (words false (high - low + 1)) (Err faults.Width) (λ e. words_width false (high - low + 1)) tt)

bits_in_width : (resize : Bool) (count : ℕ) (x : Bool) (n : ℕ) → GivesSort (bits_in resize count x n)
bits_in_width true count x n = words_width x count
bits_in_width false count x n = words_width x (n + count)

pub widen_width : (resize : Bool) (n : ℕ) (t : Typing) → GivesWidth (widen_typing resize n t)
widen_width resize n t = operand_width (bits_in resize n) t.sort t.is_set (bits_in_width resize n)

by_set : (b : Bool) (r : Result Typing NodeFault) → GivesWidth r → GivesWidth (if b then Err faults.SetHere else r)
by_set true r h = tt
by_set false r h = h

pub next_width : (t : Typing) → GivesWidth (next_typing t)
next_width t = by_set t.is_set (node_of false (given t.sort)) (node_width false (given t.sort) (given_width t.sort))

unless_width : (f : Option NodeFault) (r : Result Typing NodeFault) → GivesWidth r → GivesWidth (unless f r)
unless_width (Some f) r h = tt
unless_width None r h = h

pub set_width : (ts : List Typing) → GivesWidth (set_typing ts)
unfolding set_typing
set_width ts = unless_width (clash ts) _ (node_width true (given (together ts)) (given_width (together ts)))

pub cases_width : (cs ts : List Typing) → GivesWidth (cases_typing cs ts)
unfolding cases_typing
cases_width cs ts = unless_width (no_boolean cs) _ (unless_width (clash ts) _ (unless_width (some_set cs) _ (node_width (has_set ts) (given (together ts)) (given_width (together ts)))))
