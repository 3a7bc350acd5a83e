use Rattle.std.proofs.Common.{◌≡◌, take}
use Rattle.smv_flat.proofs.stated.entry_copies.Given as goal

abbrev pub invariant-loop-one : goal.invariant-loop-one
invariant-loop-one l = l.all.items ≡ take l.one-index l.entries
