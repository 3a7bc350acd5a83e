use Rattle.std.proofs.Common.{◌≡◌, ◌++◌, ◌≤ℤ◌}
use Rattle.smv_meaning.specs.Operators.{span_from, span_length}
use Rattle.smv_flat.proofs.copies.rising.Given as goal

-- those that are there, and those from n on
abbrev pub invariant-loop-n : goal.invariant-loop-n
invariant-loop-n l = (l.n ≤ℤ l.high) × (span_from l.low (span_length l.low l.high) ≡ l.all.items ++ span_from l.n (span_length l.n l.high))
