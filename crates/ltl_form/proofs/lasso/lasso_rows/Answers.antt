use Rattle.std.proofs.Common.{◌≡◌, ℕ, ◌+◌, ◌<◌, ◌++◌, ◌∷◌, [], Bool, List, length, sym, ap, subst, ◌∙◌, rules, arith}
use Rattle.std.proofs.lemmas.Grind.{common_steps}
use Rattle.std.proofs.lemmas.List.{length_push}
use Rattle.ltl_form.specs.Nodes.{node_at}
use Rattle.ltl_form.specs.Rows.{row_at, lasso_value, IsRow}
use Rattle.ltl_form.proofs.Steps.{lasso_stays, more_rows}
use Rattle.ltl_form.proofs.lasso.lasso_rows.Goals as goal

pub loop-node-preserved : goal.loop-node-preserved
loop-node-preserved c =
    let rows = c.loop-node.rows.items in
    let row = c.in_ok-row.row in
    let n = c.loop-node.node-index in
    let nodes = c.args.nodes.now in
    let count : length rows ≡ n = c.loop-node.invariant.count in
    let pushed : c.push.new.self.items ≡ rows ++ row ∷ [] = first_of (search rules, grind (arith, common_steps)) in
    let b : n < length nodes = c.loop-node-test.true in
    let now : IsRow c.args.k (lasso_value c.args.k c.args.l c.args.t.now rows (node_at nodes n)) row = c.in_ok-row.ensures in
    let more = more_rows rows row c.args.k (lasso_value c.args.k c.args.l c.args.t.now) (lasso_stays rows row c.args.k c.args.l c.args.t.now) nodes c.requires.ordered n b count c.loop-node.invariant.each now in
    record {
      count = ap (λ (x : List (List Bool)). length x) pushed ∙ length_push rows row ∙ ap (λ (i : ℕ). i + 1) count;
      each = λ i w. subst (λ (x : List (List Bool)). IsRow c.args.k (lasso_value c.args.k c.args.l c.args.t.now x (node_at nodes i)) (row_at x i)) (sym pushed) (more i w);
    }
