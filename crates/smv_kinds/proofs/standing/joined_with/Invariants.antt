use Rattle.std.proofs.Common.{◌≡◌, take}
use Rattle.std.specs.Prelude.{fold}
use Rattle.smv_kinds.specs.Sorts.{joined}
use Rattle.smv_kinds.specs.Nodes.{value_sort}
use Rattle.smv_kinds.proofs.standing.joined_with.Given as goal

abbrev pub invariant-loop-value : goal.invariant-loop-value
invariant-loop-value l = l.sort ≡ fold (λ s v. joined s (value_sort v)) l.fn.first (take l.value-index l.values)
