use Rattle.std.proofs.Common.{◌≡◌, ℕ, ◌<◌, length}
use Rattle.ltl_bmc.specs.Circuits.{lit_at, signed_lit}
use Rattle.ltl_bmc.proofs.sweeps.turn.Given as goal

abbrev pub invariant-loop-p : goal.invariant-loop-p
invariant-loop-p l = record {
  places : length l.all ≡ l.places;
  literals : (q : ℕ) → q < l.p → lit_at l.all q ≡ signed_lit l.negated (lit_at l.row q);
}
