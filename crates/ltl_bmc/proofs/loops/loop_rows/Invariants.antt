use Rattle.std.proofs.Common.{◌≡◌, ℕ, ◌<◌, Bool, List, length}
use Rattle.gates.specs.Nodes.{Grows, AddsConjunctions}
use Rattle.gates.specs.Valuation.{IsValuation}
use Rattle.ltl_form.specs.Nodes.{node_at}
use Rattle.ltl_form.specs.Rows.{row_at, lasso_value, IsRow}
use Rattle.ltl_bmc.specs.Circuits.{lits_at, told_rows, RowsBelong}
use Rattle.ltl_bmc.proofs.loops.loop_rows.Given as goal

abbrev pub invariant-loop-node : goal.invariant-loop-node
invariant-loop-node l = record {
  count : length l.rows.items ≡ l.node-index;
  places : (i : ℕ) → i < l.node-index → length (lits_at l.rows.items i) ≡ l.k;
  each : (values : List Bool) → IsValuation l.g values → (i : ℕ) → i < l.node-index →
      IsRow l.k (lasso_value l.k l.l (told_rows values l.t) (told_rows values l.rows.items) (node_at l.nodes i)) (row_at (told_rows values l.rows.items) i);
  belongs : RowsBelong l.g l.rows.items;
  grows : Grows l.fn.g l.g;
  conjunctions : AddsConjunctions l.fn.g l.g;
}
