use Rattle.std.proofs.Common.{◌≡◌, take}
use Rattle.smv_flat.proofs.partial.stated_copies.Given as goal

abbrev pub invariant-loop-stated : goal.invariant-loop-stated
invariant-loop-stated l = l.all.items ≡ take l.stated-index l.stateds
