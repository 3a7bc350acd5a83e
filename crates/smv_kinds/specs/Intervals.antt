-- Intervals of integers, and what operators make of them.
use Rattle.std.specs.Prelude.{ℕ, ◌-◌, ◌^◌, max, Bool, true, false, ◌&&◌, if◌then◌else◌, ℤ, pos, negsuc, neg_ℤ, ◌+ℤ◌, ◌-ℤ◌, ◌*ℤ◌, int_lt, int_le, unsigned_abs, Result, Ok, Err}
use Rattle.std.specs.Int.{int_min, int_max}
use Rattle.smv_kinds.specs.declared.interval.Interval.{Interval}

-- the integers from low to high
abbrev pub between : ℤ → ℤ → Interval
between low high = record { low = low; high = high }

-- a number has 64 bits
abbrev pub is_narrow : ℤ → Bool
is_narrow z = int_le (negsuc (2 ^ 63 - 1)) z && int_lt z (pos (2 ^ 63))

-- the interval, or its first end outside 64 bits, the lower before the upper
unfoldable pub kept : Interval → Result Interval ℤ
kept i = if is_narrow i.low then (if is_narrow i.high then Ok i else Err i.high) else Err i.low

-- sums, differences, and integers with the other sign
abbrev pub sum : Interval → Interval → Interval
sum a b = between (a.low +ℤ b.low) (a.high +ℤ b.high)

abbrev pub difference : Interval → Interval → Interval
difference a b = between (a.low -ℤ b.high) (a.high -ℤ b.low)

abbrev pub negated : Interval → Interval
negated a = between (neg_ℤ a.high) (neg_ℤ a.low)

-- the least and the greatest of four
unfoldable pub least : ℤ → ℤ → ℤ → ℤ → ℤ
least a b c d = int_min (int_min (int_min a b) c) d

unfoldable pub greatest : ℤ → ℤ → ℤ → ℤ → ℤ
greatest a b c d = int_max (int_max (int_max a b) c) d

-- from the least to the greatest of the products of their ends
abbrev pub product : Interval → Interval → Interval
product a b =
    between
    (least (a.low *ℤ b.low) (a.low *ℤ b.high) (a.high *ℤ b.low) (a.high *ℤ b.high))
    (greatest (a.low *ℤ b.low) (a.low *ℤ b.high) (a.high *ℤ b.low) (a.high *ℤ b.high))

-- the greatest magnitude of an end
abbrev pub magnitude : Interval → ℕ
magnitude a = max (unsigned_abs a.low) (unsigned_abs a.high)

-- a quotient is no farther from zero than the dividend
abbrev pub quotient : Interval → Interval
quotient a = between (neg_ℤ (pos (magnitude a))) (pos (magnitude a))

-- a remainder is nearer to zero than the divisor, and has the sign of the dividend
abbrev pub remainder : Interval → Interval → Interval
remainder a b =
    between
    (if int_lt a.low (pos 0) then neg_ℤ (pos (magnitude b - 1)) else pos 0)
    (if int_lt (pos 0) a.high then pos (magnitude b - 1) else pos 0)

-- from the least to the greatest of both
abbrev pub hull : Interval → Interval → Interval
hull a b = between (int_min a.low b.low) (int_max a.high b.high)

-- the numbers of words of a width
abbrev pub of_word : Bool → ℕ → Interval
of_word true width = between (neg_ℤ (pos (2 ^ (width - 1)))) (pos (2 ^ (width - 1) - 1))
of_word false width = between (pos 0) (pos (2 ^ width - 1))
