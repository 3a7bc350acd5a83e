use Rattle.std.proofs.Common.{◌≡◌, take}
use Rattle.sat_link.proofs.bits.bits_of.Given as goal

-- the first values so far
abbrev pub invariant-loop-n : goal.invariant-loop-n
invariant-loop-n l = l.inputs.items ≡ take l.n l.values
