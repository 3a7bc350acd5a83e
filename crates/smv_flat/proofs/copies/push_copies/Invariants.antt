use Rattle.std.proofs.Common.{◌≡◌, ◌++◌, take}
use Rattle.smv_flat.proofs.copies.push_copies.Given as goal

-- those that were looked at stand behind the others
abbrev pub invariant-loop-v : goal.invariant-loop-v
invariant-loop-v l = l.all.items ≡ l.initial.all.items ++ take l.v-index l.more
