-- What the lines of the code's table of operators say.
use Rattle.std.specs.Prelude.{◌+◌, ◌==◌, Bool, true, false, not, ◌&&◌, if◌then◌else◌, Option, Some, None, Result, Ok, find, pos}
use denote.Enum.Bare.{sameb}
use Rattle.smv_tree.specs.declared.expr.Op1.{Op1}
use Rattle.smv_tree.specs.declared.expr.Op2.{Op2}
use Rattle.smv_tree.specs.contracts.expr.Op1.{the_type as type_of_one}
use Rattle.smv_tree.specs.contracts.expr.Op2.{the_type as type_of_two}
use Rattle.smv_kinds.specs.declared.interval.Interval.{Interval}
use Rattle.smv_kinds.specs.declared.table.OneEntry.{OneEntry}
use Rattle.smv_kinds.specs.declared.table.TwoEntry.{TwoEntry}
use Rattle.smv_kinds.specs.declared.table.Operand.{Operand}
use Rattle.smv_kinds.specs.declared.table.Operand.TheVariants as takes
use Rattle.smv_kinds.specs.declared.table.Operands.{Operands}
use Rattle.smv_kinds.specs.declared.table.Operands.TheVariants as take
use Rattle.smv_kinds.specs.declared.table.OneGives.{OneGives}
use Rattle.smv_kinds.specs.declared.table.OneGives.TheVariants as gives
use Rattle.smv_kinds.specs.declared.table.TwoGives.{TwoGives}
use Rattle.smv_kinds.specs.declared.table.TwoGives.TheVariants as give
use Rattle.smv_kinds.specs.declared.table.Sets.{Sets}
use Rattle.smv_kinds.specs.declared.table.Sets.TheVariants.{Neither, Right, Both}
use Rattle.smv_kinds.specs.declared.table.Ends.{Ends}
use Rattle.smv_kinds.specs.declared.table.Ends.TheVariants.{Sums, Differences, Products, Quotients, Remainders}
use Rattle.smv_kinds.specs.declared.table.TheConstants.{OPERATORS}
use Rattle.smv_kinds.specs.declared.sort.Sort.{Sort}
use Rattle.smv_kinds.specs.declared.sort.Sort.TheVariants.{Boolean, Integer, Word}
use Rattle.smv_kinds.specs.declared.sort.TyWord.{TyWord}
use Rattle.smv_kinds.specs.declared.sort.TyWord.TheVariants as named
use Rattle.smv_kinds.specs.declared.typing.Typing.{Typing}
use Rattle.smv_kinds.specs.declared.typing.NodeFault.{NodeFault}
use Rattle.smv_kinds.specs.declared.typing.NodeFault.TheVariants as faults
use Rattle.smv_kinds.specs.Intervals.{between, sum, difference, product, quotient, remainder, negated}
use Rattle.smv_kinds.specs.Operators.{taken}
use Rattle.smv_kinds.specs.Sorts.{tyword, agree, joined}
use Rattle.smv_kinds.specs.Results.{integers, words, given, number_of_word}

-- the line of an operator in the table
unfoldable pub one_entry : Op1 → Option OneEntry
one_entry o = find (λ e. sameb type_of_one e.operator o) OPERATORS.one

unfoldable pub two_entry : Op2 → Option TwoEntry
two_entry o = find (λ e. sameb type_of_two e.operator o) OPERATORS.two

-- the kinds that an operator or a function of one operand takes
abbrev pub fits_one : Operand → Sort → Bool
fits_one takes.Boolean Boolean = true
fits_one takes.BooleanOrWord Boolean = true
fits_one takes.BooleanOrWord (Word s n) = true
fits_one takes.IntegerOrWord (Integer i) = true
fits_one takes.IntegerOrWord (Word s n) = true
fits_one takes.Word (Word s n) = true
fits_one takes.BooleanIntegerOrBit Boolean = true
fits_one takes.BooleanIntegerOrBit (Integer i) = true
fits_one takes.BooleanIntegerOrBit (Word false n) = n == 1
fits_one takes.BooleanIntegerOrWord Boolean = true
fits_one takes.BooleanIntegerOrWord (Integer i) = true
fits_one takes.BooleanIntegerOrWord (Word s n) = true
fits_one _ _ = false

-- the kind that a refusal says is wanted: the first of those that are taken
abbrev pub wanted_by : Operand → TyWord
wanted_by takes.Boolean = named.Boolean
wanted_by takes.BooleanOrWord = named.Boolean
wanted_by takes.IntegerOrWord = named.Integer
wanted_by takes.Word = named.AnyWord
wanted_by takes.BooleanIntegerOrBit = named.Boolean
wanted_by takes.BooleanIntegerOrWord = named.Boolean

-- what it gives
abbrev pub one_sort : OneGives → Sort → Result Sort NodeFault
one_sort gives.Same s = given s
one_sort gives.Negated (Integer i) = integers (negated i)
one_sort gives.Negated s = given s
one_sort gives.Boolean s = Ok Boolean
one_sort gives.Bit s = words false 1
one_sort gives.SignedWord (Word signed n) = words true n
one_sort gives.SignedWord s = given s
one_sort gives.UnsignedWord (Word signed n) = words false n
one_sort gives.UnsignedWord s = given s
one_sort gives.Number Boolean = Ok (Integer (between (pos 0) (pos 1)))
one_sort gives.Number (Word signed n) = number_of_word signed n
one_sort gives.Number s = given s

-- the kinds that an operator between two operands takes
abbrev pub fits_two : Operands → Sort → Sort → Bool
fits_two take.Words (Word s m) (Word t n) = true
fits_two take.BooleansOrWords Boolean Boolean = true
fits_two take.BooleansOrWords (Word s m) (Word t n) = agree (Word s m) (Word t n)
fits_two take.IntegersOrWords (Integer a) (Integer b) = true
fits_two take.IntegersOrWords (Word s m) (Word t n) = agree (Word s m) (Word t n)
fits_two take.WordAndAmount (Word s m) (Integer b) = true
fits_two take.WordAndAmount (Word s m) (Word false n) = true
fits_two take.Agreeing a b = agree a b
fits_two _ _ _ = false

-- an operand that is a set, on the left and on the right, is allowed
abbrev pub allows : Sets → Bool → Bool → Bool
allows Neither left right = not left && not right
allows Right left right = not left
allows Both left right = true

-- the integers that it makes of two intervals
abbrev pub ends_of : Ends → Interval → Interval → Interval
ends_of Sums a b = sum a b
ends_of Differences a b = difference a b
ends_of Products a b = product a b
ends_of Quotients a b = quotient a
ends_of Remainders a b = remainder a b

-- what it gives
abbrev pub two_sort : TwoGives → Sort → Sort → Result Sort NodeFault
two_sort give.Boolean a b = Ok Boolean
two_sort give.Left a b = given a
two_sort give.Concatenated (Word s m) (Word t n) = words false (m + n)
two_sort give.Concatenated a b = given a
two_sort (give.Arithmetic ends) (Integer a) (Integer b) = integers (ends_of ends a b)
two_sort (give.Arithmetic ends) a b = given a
two_sort give.Joined a b = given (joined a b)

-- it gives a set
abbrev pub gives_set : TwoGives → Bool
gives_set give.Joined = true
gives_set _ = false

-- what a line gives, where it takes values of these kinds
abbrev pub line_on_value : OneEntry → Sort → Option (Result Sort NodeFault)
line_on_value e s = if fits_one e.takes s then Some (one_sort e.gives s) else None

abbrev pub line_on_two : TwoEntry → Sort → Sort → Option (Result Sort NodeFault)
line_on_two e a b = if fits_two e.takes a b then Some (two_sort e.gives a b) else None

-- a node by its line
abbrev pub one_by_line : OneEntry → Typing → Result Typing NodeFault
one_by_line e t = taken (line_on_value e t.sort) (faults.Operands (tyword t.sort) (wanted_by e.takes)) (not t.is_set) false

abbrev pub two_by_line : TwoEntry → Typing → Typing → Result Typing NodeFault
two_by_line e a b =
    taken (line_on_two e a.sort b.sort) (faults.Operands (tyword a.sort) (tyword b.sort)) (allows e.sets a.is_set b.is_set) (gives_set e.gives)
