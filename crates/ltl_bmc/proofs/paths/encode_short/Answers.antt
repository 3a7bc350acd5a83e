use Rattle.std.proofs.Common.{◌≡◌, ◌+◌, ◌<◌, List, length, ap, subst, sym, ◌∙◌, rules, arith}
use Rattle.std.proofs.lemmas.Grind.{common_steps}
use Rattle.gates.specs.Literal.{Literal}
use Rattle.gates.specs.Valuation.{value_of, values_of}
use Rattle.ltl_form.specs.declared.node.NnfNode.{NnfNode}
use Rattle.ltl_form.specs.Nodes.{root}
use Rattle.ltl_form.specs.Rows.{told, short_value, AreRows}
use Rattle.ltl_form.specs.Tables.{passes}
use Rattle.ltl_form.proofs.Truth.{short_told}
use Rattle.ltl_bmc.specs.Circuits.{lits_at, told_rows}
use Rattle.ltl_bmc.proofs.Rowwise.{covers_told, row_at_told, told_value}
use Rattle.ltl_bmc.proofs.paths.encode_short.Goals as goal

pub returns-clause-rows : goal.returns-clause-rows
returns-clause-rows c = λ values v.
    let last : c.index.result.now ≡ lits_at c.in_ok-rows.rows.items (root c.args.n.now) = first_of (search rules, grind (arith, common_steps)) in
    let some : 0 < length c.index.result.now = first_of (search rules, grind (arith, common_steps)) in
    record {
      rows = told_rows values c.in_ok-rows.rows.items;
      right = subst (λ (ns : List NnfNode). AreRows (c.args.k + 1) (short_value c.args.k (told_rows values c.args.atoms.now)) ns (told_rows values c.in_ok-rows.rows.items)) c.nodes-nodes.ensures.nodes (c.in_ok-rows.ensures.rows values v);
      told_so = ap (λ bs. told bs 0) (row_at_told values c.in_ok-rows.rows.items (root c.args.n.now)) ∙ ap (λ (r : List Literal). told (values_of values r) 0) (sym last)
          ∙ told_value values c.index.result.now 0 some ∙ ap (value_of values) (sym c.get.ensures);
    }

pub returns-clause-truth : goal.returns-clause-truth
returns-clause-truth c = λ values v names holds f s told_so.
    short_told names (passes holds) (told_rows values c.args.atoms.now) c.args.n.now (c.args.k + 1) (covers_told values c.args.atoms.now (c.args.k + 1) c.args.n.now c.requires.table) c.args.k told_so 0 (value_of values c.get.result)
    (omega arith) (returns-clause-rows c values v) f s
