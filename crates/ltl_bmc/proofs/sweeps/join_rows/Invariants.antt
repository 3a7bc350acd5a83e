use Rattle.std.proofs.Common.{◌≡◌, ◌&&◌, Bool, List, length}
use Rattle.gates.specs.Nodes.{Grows, AddsConjunctions}
use Rattle.gates.specs.Valuation.{values_of, IsValuation}
use Rattle.ltl_form.specs.Rows.{told, turned, IsRow}
use Rattle.ltl_bmc.specs.Circuits.{RowBelongs}
use Rattle.ltl_bmc.proofs.sweeps.join_rows.Given as goal

abbrev pub invariant-loop-p : goal.invariant-loop-p
invariant-loop-p l = record {
  places : length l.row ≡ l.p;
  values : (values : List Bool) → IsValuation l.g values → IsRow l.p
      (λ q. turned l.dual (turned l.dual (told (values_of values l.first) q) && turned l.dual (told (values_of values l.second) q)))
      (values_of values l.row);
  belongs : RowBelongs l.g l.row;
  grows : Grows l.fn.g l.g;
  conjunctions : AddsConjunctions l.fn.g l.g;
}
