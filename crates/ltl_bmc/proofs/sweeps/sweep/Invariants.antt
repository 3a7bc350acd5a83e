use Rattle.std.proofs.Common.{◌≡◌, ℕ, ◌<◌, ◌≤◌, Bool, List, length}
use Rattle.gates.specs.Nodes.{Grows, AddsConjunctions, Belongs}
use Rattle.gates.specs.Valuation.{value_of, values_of, IsValuation}
use Rattle.ltl_form.specs.Rows.{told, ahead_turned}
use Rattle.ltl_bmc.specs.Circuits.{RowBelongs}
use Rattle.ltl_bmc.proofs.sweeps.sweep.Given as goal

abbrev pub invariant-loop-p : goal.invariant-loop-p
invariant-loop-p l = record {
  places : length l.row ≡ length l.fn.row;
  within : l.p ≤ length l.fn.row;
  above : l.from ≤ l.p;
  found : (values : List Bool) → IsValuation l.g values →
      value_of values l.value ≡ ahead_turned l.dual (length l.fn.row) (told (values_of values l.first)) (told (values_of values l.second)) (value_of values l.fn.after) l.p;
  values : (values : List Bool) → IsValuation l.g values → (q : ℕ) → l.p ≤ q → q < length l.fn.row →
      told (values_of values l.row) q ≡ ahead_turned l.dual (length l.fn.row) (told (values_of values l.first)) (told (values_of values l.second)) (value_of values l.fn.after) q;
  belongs : RowBelongs l.g l.row;
  found_belongs : Belongs l.g l.value;
  grows : Grows l.fn.g l.g;
  conjunctions : AddsConjunctions l.fn.g l.g;
}

abbrev pub decreases-loop-p : goal.decreases-loop-p
decreases-loop-p l = l.p
