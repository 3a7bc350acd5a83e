-- What constants, functions of words, lists and branches have for a type, and what may stand where.
use Rattle.std.specs.Prelude.{ℕ, ◌+◌, ◌-◌, Bool, true, false, not, ◌&&◌, nat_le, nat_lt, ℤ, pos, int_le, if◌then◌else◌, List, [], ◌∷◌, length, find, fold, Option, Some, None, option_map, Result, Ok, Err}
use Rattle.std.specs.List.{list_any}
use Rattle.smv_tree.specs.Word.{Word as WordBits}
use Rattle.smv_tree.specs.declared.value.Value.{Value}
use Rattle.smv_tree.specs.declared.value.Value.TheVariants as value
use Rattle.smv_tree.specs.declared.value.Ty.{Ty}
use Rattle.smv_tree.specs.declared.value.Ty.TheVariants as type
use Rattle.smv_kinds.specs.declared.sort.Sort.{Sort}
use Rattle.smv_kinds.specs.declared.sort.Sort.TheVariants.{Boolean, Integer, Symbolic, Word, Instance}
use Rattle.smv_kinds.specs.declared.sort.TyWord.TheVariants as named
use Rattle.smv_kinds.specs.declared.typing.Typing.{Typing}
use Rattle.smv_kinds.specs.declared.typing.NodeFault.{NodeFault}
use Rattle.smv_kinds.specs.declared.typing.NodeFault.TheVariants.{Operands, SetHere, Reversed, Width}
use Rattle.smv_kinds.specs.Intervals.{between}
use Rattle.smv_kinds.specs.Sorts.{tyword, agree, joined}
use Rattle.smv_kinds.specs.Results.{node_of, integers, words, is_width, given, unless, set_of}

-- a number, and the constant of a word
abbrev pub number_typing : ℕ → Result Typing NodeFault
number_typing n = node_of false (integers (between (pos n) (pos n)))

abbrev pub word_typing : WordBits → Result Typing NodeFault
word_typing w = node_of false (words w.signed w.width)

-- the set of the numbers from low to high
abbrev pub span_typing : ℤ → ℤ → Result Typing NodeFault
span_typing low high = if int_le low high then Ok (set_of (Integer (between low high))) else Err Reversed

-- a node whose operand is a word, by the sign and the width of that
abbrev pub of_word_operand : (Bool → ℕ → Result Sort NodeFault) → Sort → Bool → Result Typing NodeFault
of_word_operand f (Word signed n) is_set = if is_set then Err SetHere else node_of false (f signed n)
of_word_operand f s is_set = Err (Operands (tyword s) named.AnyWord)

-- the bits from high down to low
abbrev pub bits_of : ℕ → ℕ → ℕ → Result Sort NodeFault
bits_of high low n = if nat_le low high && nat_lt high n then words false (high - low + 1) else Err Width

abbrev pub select_typing : ℕ → ℕ → Typing → Result Typing NodeFault
select_typing high low t = of_word_operand (λ signed n. bits_of high low n) t.sort t.is_set

-- `resize` to so many bits, or `extend` by so many
abbrev pub bits_in : Bool → ℕ → Bool → ℕ → Result Sort NodeFault
bits_in true count signed n = words signed count
bits_in false count signed n = words signed (n + count)

abbrev pub widen_typing : Bool → ℕ → Typing → Result Typing NodeFault
widen_typing resize count t = of_word_operand (bits_in resize count) t.sort t.is_set

-- a number as a word of this width
abbrev pub const_typing : Bool → ℕ → Result Typing NodeFault
const_typing signed n = node_of false (words signed n)

-- the value at the next moment
abbrev pub next_typing : Typing → Result Typing NodeFault
next_typing t = if t.is_set then Err SetHere else node_of false (given t.sort)

abbrev pub is_boolean : Sort → Bool
is_boolean Boolean = true
is_boolean _ = false

-- the first that is no boolean
unfoldable pub no_boolean : List Typing → Option NodeFault
no_boolean ts = option_map (λ t. Operands (tyword t.sort) named.Boolean) (find (λ t. not (is_boolean t.sort)) ts)

-- one of them is a set
abbrev pub has_set : List Typing → Bool
has_set ts = list_any (λ t. t.is_set) ts

unfoldable pub some_set : List Typing → Option NodeFault
some_set ts = if has_set ts then Some SetHere else None

-- the first that doesn't agree with this kind
unfoldable pub strange : Sort → List Typing → Option NodeFault
strange s ts = option_map (λ t. Operands (tyword s) (tyword t.sort)) (find (λ t. not (agree s t.sort)) ts)

-- the first that doesn't agree with the first of all. What stands alone is compared with nothing
unfoldable pub clash : List Typing → Option NodeFault
clash [] = None
clash (t ∷ ts) = strange t.sort ts

-- the kind of what has the values of all
unfoldable pub together : List Typing → Sort
together [] = Symbolic
together (t ∷ ts) = fold (λ s u. joined s u.sort) t.sort ts

-- a set of these members
unfoldable pub set_typing : List Typing → Result Typing NodeFault
set_typing ts = unless (clash ts) (node_of true (given (together ts)))

-- how many are true
unfoldable pub count_typing : List Typing → Result Typing NodeFault
count_typing ts = unless (no_boolean ts) (unless (some_set ts) (node_of false (integers (between (pos 0) (pos (length ts))))))

-- the branch that conditions choose
unfoldable pub cases_typing : List Typing → List Typing → Result Typing NodeFault
cases_typing conditions branches =
    unless (no_boolean conditions) (unless (clash branches) (unless (some_set conditions) (node_of (has_set branches) (given (together branches)))))

-- what is wrong where one boolean is wanted: a constraint, or an atom
abbrev pub constraint_fault : Typing → Option NodeFault
constraint_fault t = if is_boolean t.sort then (if t.is_set then Some SetHere else None) else Some (Operands (tyword t.sort) named.Boolean)

-- what is wrong where values are assigned to a variable of this kind
abbrev pub assignment_fault : Sort → Typing → Option NodeFault
assignment_fault variable t = if agree variable t.sort then None else Some (Operands (tyword variable) (tyword t.sort))

-- what is wrong where a define or an actual parameter names an expression: an instance is none
abbrev pub body_fault : Typing → Option NodeFault
body_fault t = elim t.sort [ Instance ↦ Some (Operands named.Instance named.Instance) | _ ↦ None ]

-- the kind of a value of an enumeration
abbrev pub value_sort : Value → Sort
value_sort (value.Truth b) = Boolean
value_sort (value.Int z) = Integer (between z z)
value_sort (value.Sym n) = Symbolic
value_sort (value.Word w) = Word w.signed w.width

-- the kind of an enumeration's values
unfoldable pub enum_sort : List Value → Sort
enum_sort [] = Symbolic
enum_sort (v ∷ vs) = fold (λ s w. joined s (value_sort w)) (value_sort v) vs

-- the kind of a variable of this type
abbrev pub declared_sort : Ty → Sort
declared_sort type.Bool = Boolean
declared_sort (type.Range low high) = Integer (between low high)
declared_sort (type.Enum values) = enum_sort values
declared_sort (type.Word signed n) = Word signed n

-- what is wrong with a type
abbrev pub type_fault : Ty → Option NodeFault
type_fault (type.Range low high) = if int_le low high then None else Some Reversed
type_fault (type.Word signed n) = if is_width n then None else Some Width
type_fault _ = None
