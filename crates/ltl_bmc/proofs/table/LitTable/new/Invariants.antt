use Rattle.std.proofs.Common.{◌≡◌, ℕ, ◌<◌, length}
use Rattle.gates.specs.Literal.{never}
use Rattle.ltl_bmc.specs.Circuits.{lit_at, lits_at}
use Rattle.ltl_bmc.proofs.table.LitTable.new.Given as goal

abbrev pub invariant-loop-atom : goal.invariant-loop-atom
invariant-loop-atom l = record {
  atoms : length l.rows.items ≡ l._atom;
  states : (a : ℕ) → a < l._atom → length (lits_at l.rows.items a) ≡ l.states;
  none : (a p : ℕ) → a < l._atom → p < l.states → lit_at (lits_at l.rows.items a) p ≡ never;
}
