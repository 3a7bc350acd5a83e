use Rattle.std.proofs.Common.{◌≡◌, ℕ, ◌+◌, ◌<◌, ◌≤◌, length}
use Rattle.ltl_bmc.specs.Circuits.{lit_at}
use Rattle.ltl_bmc.proofs.sweeps.shift.Given as goal

abbrev pub invariant-loop-p : goal.invariant-loop-p
invariant-loop-p l = record {
  places : length l.all ≡ length l.row;
  literals : (q : ℕ) → q + 1 < l.p → lit_at l.all q ≡ lit_at l.row (q + 1);
  last : (q : ℕ) → l.p ≤ q + 1 → q < length l.row → lit_at l.all q ≡ l.fn.last;
}
