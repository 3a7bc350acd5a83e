use Rattle.std.proofs.Common.{◌≡◌, take}
use Rattle.sat_link.specs.Encoding.{all_encoded}
use Rattle.sat_link.proofs.encode.encode_all.Given as goal

-- the first literals so far
abbrev pub invariant-loop-i : goal.invariant-loop-i
invariant-loop-i l = l.all ≡ all_encoded (take l.i l.ls)
