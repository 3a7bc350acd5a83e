use Rattle.std.proofs.Common.{◌≡◌, ℕ, ◌<◌, length}
use Rattle.ltl_form.specs.Rows.{told, turned}
use Rattle.ltl_form.proofs.row.Row.turned.Given as goal

abbrev pub invariant-loop-p : goal.invariant-loop-p
invariant-loop-p l = record {
  places : length l.row ≡ l.places;
  values : (q : ℕ) → q < l.p → told l.row q ≡ turned l.negated (told l.self q);
}
