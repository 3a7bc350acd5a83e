use Rattle.std.proofs.Common.{◌≡◌, ℕ, ◌<◌, ◌≤◌, length}
use Rattle.ltl_form.specs.Rows.{told, ahead_turned}
use Rattle.ltl_form.proofs.row.sweep.Given as goal

abbrev pub invariant-loop-p : goal.invariant-loop-p
invariant-loop-p l = record {
  places : length l.row ≡ length l.fn.row;
  within : l.p ≤ length l.fn.row;
  above : l.from ≤ l.p;
  found : l.value ≡ ahead_turned l.dual (length l.fn.row) (told l.first) (told l.second) l.after l.p;
  values : (q : ℕ) → l.p ≤ q → q < length l.fn.row →
      told l.row q ≡ ahead_turned l.dual (length l.fn.row) (told l.first) (told l.second) l.after q;
}

abbrev pub decreases-loop-p : goal.decreases-loop-p
decreases-loop-p l = l.p
