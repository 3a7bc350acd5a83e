-- What each operator takes and gives: the kinds, whether operands may be sets, and the integers.
use Rattle.std.specs.Prelude.{◌+◌, ◌==◌, Bool, true, false, not, ◌&&◌, if◌then◌else◌, Option, Some, None, Result, Ok, Err, pos}
use Rattle.smv_tree.specs.declared.expr.Op1.{Op1}
use Rattle.smv_tree.specs.declared.expr.Op1.TheVariants as one
use Rattle.smv_tree.specs.declared.expr.Op2.{Op2}
use Rattle.smv_tree.specs.declared.expr.Op2.TheVariants as two
use Rattle.smv_kinds.specs.declared.interval.Interval.{Interval}
use Rattle.smv_kinds.specs.declared.sort.Sort.{Sort}
use Rattle.smv_kinds.specs.declared.sort.Sort.TheVariants.{Boolean, Integer, Word}
use Rattle.smv_kinds.specs.declared.sort.TyWord.{TyWord}
use Rattle.smv_kinds.specs.declared.sort.TyWord.TheVariants as named
use Rattle.smv_kinds.specs.declared.typing.Typing.{Typing}
use Rattle.smv_kinds.specs.declared.typing.NodeFault.{NodeFault}
use Rattle.smv_kinds.specs.declared.typing.NodeFault.TheVariants as faults
use Rattle.smv_kinds.specs.Intervals.{between, sum, difference, product, quotient, remainder, negated}
use Rattle.smv_kinds.specs.Sorts.{tyword, agree, joined}
use Rattle.smv_kinds.specs.Results.{node_of, integers, words, given, number_of_word}

-- what an operator or a function of one operand gives, where it takes a value of this kind
abbrev pub on_value : Op1 → Sort → Option (Result Sort NodeFault)
on_value one.Not Boolean = Some (Ok Boolean)
on_value one.Not (Word s n) = Some (words s n)
on_value one.Neg (Integer i) = Some (integers (negated i))
on_value one.Neg (Word s n) = Some (words s n)
on_value one.Word1 Boolean = Some (words false 1)
on_value one.Bool Boolean = Some (Ok Boolean)
on_value one.Bool (Integer i) = Some (Ok Boolean)
on_value one.Bool (Word false n) = if n == 1 then Some (Ok Boolean) else None
on_value one.Signed (Word s n) = Some (words true n)
on_value one.Unsigned (Word s n) = Some (words false n)
on_value one.ToInt Boolean = Some (Ok (Integer (between (pos 0) (pos 1))))
on_value one.ToInt (Integer i) = Some (Ok (Integer i))
on_value one.ToInt (Word s n) = Some (number_of_word s n)
on_value _ _ = None

-- the kind that a refusal of another says is wanted: the first of those that are taken
abbrev pub wanted : Op1 → TyWord
wanted one.Neg = named.Integer
wanted one.Signed = named.AnyWord
wanted one.Unsigned = named.AnyWord
wanted _ = named.Boolean

-- two booleans, or two words of one type: the same kind
abbrev pub bitwise : Sort → Sort → Option (Result Sort NodeFault)
bitwise Boolean Boolean = Some (Ok Boolean)
bitwise (Word s m) (Word t n) = if agree (Word s m) (Word t n) then Some (words s m) else None
bitwise _ _ = None

-- two integers, or two words of one type: integers of the interval that is made of theirs, or words of the type
abbrev pub arithmetic : (Interval → Interval → Interval) → Sort → Sort → Option (Result Sort NodeFault)
arithmetic made (Integer a) (Integer b) = Some (integers (made a b))
arithmetic made (Word s m) (Word t n) = if agree (Word s m) (Word t n) then Some (words s m) else None
arithmetic made _ _ = None

-- two integers, or two words of one type, which are compared
abbrev pub ordered : Sort → Sort → Option (Result Sort NodeFault)
ordered (Integer a) (Integer b) = Some (Ok Boolean)
ordered (Word s m) (Word t n) = if agree (Word s m) (Word t n) then Some (Ok Boolean) else None
ordered _ _ = None

-- a word, and an integer or an unsigned word: the type of the left
abbrev pub shifted : Sort → Sort → Option (Result Sort NodeFault)
shifted (Word s m) (Integer b) = Some (words s m)
shifted (Word s m) (Word false n) = Some (words s m)
shifted _ _ = None

-- two words: an unsigned word as wide as both
abbrev pub concatenated : Sort → Sort → Option (Result Sort NodeFault)
concatenated (Word s m) (Word t n) = Some (words false (m + n))
concatenated _ _ = None

-- two kinds that agree
abbrev pub agreeing : Result Sort NodeFault → Sort → Sort → Option (Result Sort NodeFault)
agreeing r a b = if agree a b then Some r else None

-- what an operator between two operands gives, where it takes values of these kinds
abbrev pub on_two : Op2 → Sort → Sort → Option (Result Sort NodeFault)
on_two two.Concat a b = concatenated a b
on_two two.Mul a b = arithmetic product a b
on_two two.Div a b = arithmetic (λ i j. quotient i) a b
on_two two.Mod a b = arithmetic remainder a b
on_two two.Add a b = arithmetic sum a b
on_two two.Sub a b = arithmetic difference a b
on_two two.Shl a b = shifted a b
on_two two.Shr a b = shifted a b
on_two two.Union a b = agreeing (given (joined a b)) a b
on_two two.In a b = agreeing (Ok Boolean) a b
on_two two.Eq a b = agreeing (Ok Boolean) a b
on_two two.Ne a b = agreeing (Ok Boolean) a b
on_two two.Lt a b = ordered a b
on_two two.Gt a b = ordered a b
on_two two.Le a b = ordered a b
on_two two.Ge a b = ordered a b
on_two two.And a b = bitwise a b
on_two two.Or a b = bitwise a b
on_two two.Xor a b = bitwise a b
on_two two.Xnor a b = bitwise a b
on_two two.Iff a b = bitwise a b
on_two two.Implies a b = bitwise a b

-- whether operands on the left and on the right that are sets, or are none, are allowed
abbrev pub allowed : Op2 → Bool → Bool → Bool
allowed two.Union left right = true
allowed two.In left right = not left
allowed _ left right = not left && not right

-- a union is a set
abbrev pub is_union : Op2 → Bool
is_union two.Union = true
is_union _ = false

-- a node with what is given where its kinds are taken. Kinds go before sets, and sets before widths and ends
abbrev pub taken : Option (Result Sort NodeFault) → NodeFault → Bool → Bool → Result Typing NodeFault
taken None other sets_allowed is_set = Err other
taken (Some sort) other sets_allowed is_set = if sets_allowed then node_of is_set sort else Err faults.SetHere

unfoldable pub one_typing : Op1 → Typing → Result Typing NodeFault
one_typing o t = taken (on_value o t.sort) (faults.Operands (tyword t.sort) (wanted o)) (not t.is_set) false

unfoldable pub two_typing : Op2 → Typing → Typing → Result Typing NodeFault
two_typing o a b =
    taken (on_two o a.sort b.sort) (faults.Operands (tyword a.sort) (tyword b.sort)) (allowed o a.is_set b.is_set) (is_union o)
