use Rattle.std.proofs.Common.{◌≡◌, ℕ, ◌<◌, length}
use Rattle.ltl_form.specs.Nodes.{node_at}
use Rattle.ltl_form.specs.Rows.{row_at, lasso_value, IsRow}
use Rattle.ltl_form.proofs.lasso.lasso_rows.Given as goal

abbrev pub invariant-loop-node : goal.invariant-loop-node
invariant-loop-node l = record {
  count : length l.rows.items ≡ l.node-index;
  each : (i : ℕ) → i < l.node-index → IsRow l.k (lasso_value l.k l.l l.t l.rows.items (node_at l.nodes i)) (row_at l.rows.items i);
}
