use Rattle.std.proofs.Common.{◌≡◌, ℕ, ◌+◌, ◌<◌, ◌++◌, ◌∷◌, [], Bool, List, length, sym, ap, subst, ◌∙◌, rules, arith}
use Rattle.std.proofs.lemmas.Grind.{common_steps}
use Rattle.std.proofs.lemmas.List.{length_push, length-map, map-append}
use Rattle.gates.specs.Literal.{Literal}
use Rattle.gates.specs.Valuation.{values_of}
use Rattle.gates.proofs.Growth.{Grows-trans, AddsConjunctions-trans}
use Rattle.gates.proofs.Meaning.{IsValuation-Grows}
use Rattle.ltl_form.specs.Nodes.{node_at}
use Rattle.ltl_form.specs.Rows.{row_at, lasso_value, IsRow}
use Rattle.ltl_form.proofs.Steps.{lasso_stays, more_rows}
use Rattle.ltl_bmc.specs.Circuits.{lits_at, told_rows, RowsBelong}
use Rattle.ltl_bmc.proofs.Rowwise.{belong_on, pushed_rows_belong, pushed_places}
use Rattle.ltl_bmc.proofs.loops.loop_rows.Goals as goal

pub loop-node-preserved : goal.loop-node-preserved
loop-node-preserved c =
    let k = c.args.k in
    let l = c.args.l in
    let rows = c.loop-node.rows.items in
    let row = c.in_ok-row.row in
    let n = c.loop-node.node-index in
    let nodes = c.args.nodes.now in
    let count : length rows ≡ n = c.loop-node.invariant.count in
    let pushed : c.push.new.self.items ≡ rows ++ row ∷ [] = first_of (search rules, grind (arith, common_steps)) in
    let b : n < length nodes = c.loop-node-test.true in
    record {
      count = ap (λ (x : List (List Literal)). length x) pushed ∙ length_push rows row ∙ ap (λ (i : ℕ). i + 1) count;
      places = λ i w. subst (λ (x : List (List Literal)). length (lits_at x i) ≡ k) (sym pushed) (pushed_places rows row n k count c.loop-node.invariant.places c.in_ok-row.ensures.places i w);
      each = λ values v i w.
          let table = told_rows values c.args.t.now in
          let old = told_rows values rows in
          subst (λ (x : List (List Literal)). IsRow k (lasso_value k l table (told_rows values x) (node_at nodes i)) (row_at (told_rows values x) i)) (sym pushed)
          (subst (λ (x : List (List Bool)). IsRow k (lasso_value k l table x (node_at nodes i)) (row_at x i)) (sym (map-append (values_of values) rows (row ∷ [])))
          (more_rows old (values_of values row) k (lasso_value k l table) (lasso_stays old (values_of values row) k l table) nodes c.requires.ordered n b (length-map rows (values_of values) ∙ count)
          (c.loop-node.invariant.each values (IsValuation-Grows c.in_ok-row.ensures.grows v)) (c.in_ok-row.ensures.values values v) i w));
      belongs = subst (RowsBelong c.loop_row.new.g) (sym pushed) (pushed_rows_belong rows row c.loop_row.new.g (belong_on rows c.in_ok-row.ensures.grows c.loop-node.invariant.belongs) c.in_ok-row.ensures.belongs);
      grows = Grows-trans c.loop-node.invariant.grows c.in_ok-row.ensures.grows;
      conjunctions = AddsConjunctions-trans c.loop-node.invariant.conjunctions c.in_ok-row.ensures.conjunctions;
    }
