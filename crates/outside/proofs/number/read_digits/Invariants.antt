use Rattle.std.proofs.Common.{◌≡◌, ◌-◌, ◌^◌, take}
use Rattle.std.specs.Prelude.{min}
use Rattle.outside.specs.Number.{digits_value}
use Rattle.outside.proofs.number.read_digits.Given as goal

-- the value of the digits so far, as far as it fits
abbrev pub invariant-loop-digit : goal.invariant-loop-digit
invariant-loop-digit l = l.value ≡ min (digits_value (take l.digit-index l.digits)) (2 ^ 64 - 1)
