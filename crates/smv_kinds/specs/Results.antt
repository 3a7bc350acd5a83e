-- What a node of an expression has for a type, or what is wrong at it.
use Rattle.std.specs.Prelude.{ℕ, Bool, true, false, ◌&&◌, nat_le, ℤ, if◌then◌else◌, Option, Some, None, Result, Ok, Err}
use Rattle.smv_kinds.specs.declared.interval.Interval.{Interval}
use Rattle.smv_kinds.specs.declared.sort.Sort.{Sort}
use Rattle.smv_kinds.specs.declared.sort.Sort.TheVariants.{Integer, Word}
use Rattle.smv_kinds.specs.declared.typing.Typing.{Typing}
use Rattle.smv_kinds.specs.declared.typing.NodeFault.{NodeFault}
use Rattle.smv_kinds.specs.declared.typing.NodeFault.TheVariants as faults
use Rattle.smv_kinds.specs.Intervals.{kept, of_word}

-- one value, and a set
abbrev pub single : Sort → Typing
single s = record { sort = s; is_set = false }

abbrev pub set_of : Sort → Typing
set_of s = record { sort = s; is_set = true }

-- a node of this kind, a set or one value, or with this fault
abbrev pub node_of : Bool → Result Sort NodeFault → Result Typing NodeFault
node_of is_set (Ok s) = Ok (record { sort = s; is_set = is_set })
node_of is_set (Err f) = Err f

-- integers of this interval, whose ends have to have 64 bits
abbrev pub integers_of : Result Interval ℤ → Result Sort NodeFault
integers_of (Ok i) = Ok (Integer i)
integers_of (Err end) = Err (faults.Interval end)

abbrev pub integers : Interval → Result Sort NodeFault
integers i = integers_of (kept i)

-- a word may have this width
abbrev pub is_width : ℕ → Bool
is_width n = nat_le 1 n && nat_le n 64

-- a word of this width, which has to be within its limits
abbrev pub words : Bool → ℕ → Result Sort NodeFault
words signed n = if is_width n then Ok (Word signed n) else Err faults.Width

-- the numbers of words of a width. Those of 128 bits and more, which no type may have, are refused by the width
abbrev pub number_of_word : Bool → ℕ → Result Sort NodeFault
number_of_word signed n = if nat_le 1 n && nat_le n 127 then integers (of_word signed n) else Err faults.Width

-- a result of this kind
abbrev pub given : Sort → Result Sort NodeFault
given (Word signed n) = words signed n
given s = Ok s

-- this fault, if there is one, goes before what follows
abbrev pub unless : Option NodeFault → Result Typing NodeFault → Result Typing NodeFault
unless (Some f) r = Err f
unless None r = r
