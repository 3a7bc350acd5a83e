use Rattle.std.proofs.Common.{◌≡◌, ℕ, ◌<◌, ◌||◌, length}
use Rattle.ltl_form.specs.Rows.{told}
use Rattle.ltl_form.proofs.row.Row.either.Given as goal

abbrev pub invariant-loop-p : goal.invariant-loop-p
invariant-loop-p l = record {
  places : length l.row ≡ length l.self;
  values : (q : ℕ) → q < l.p → told l.row q ≡ (told l.self q || told l.other q);
}
