use Rattle.std.proofs.Common.{◌≡◌, ℕ, ◌<◌, false, length}
use Rattle.ltl_form.specs.Rows.{told, row_at}
use Rattle.ltl_form.proofs.table.Table.new.Given as goal

abbrev pub invariant-loop-atom : goal.invariant-loop-atom
invariant-loop-atom l = record {
  atoms : length l.rows.items ≡ l._atom;
  states : (a : ℕ) → a < l._atom → length (row_at l.rows.items a) ≡ l.states;
  none : (a p : ℕ) → a < l._atom → p < l.states → told (row_at l.rows.items a) p ≡ false;
}
