use Rattle.std.proofs.Common.{◌<◌, ℕ}
use Rattle.smv_tree.specs.Models.{bodies}
use Rattle.smv_modules.proofs.Contained.{IsContained}
use Rattle.smv_modules.proofs.cycles.first_contained.Given as goal

abbrev pub invariant-loop-number : goal.invariant-loop-number
invariant-loop-number l = (j : ℕ) → j < l.number → IsContained (bodies l.p) j → ⊥
