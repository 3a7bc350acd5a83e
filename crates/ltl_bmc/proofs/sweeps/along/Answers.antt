use Rattle.std.proofs.Common.{◌≡◌, length, ap, ◌∙◌, arith}
use Rattle.gates.specs.Valuation.{value_of, values_of}
use Rattle.smv_meaning.specs.Sweeps.{ahead}
use Rattle.ltl_form.specs.Rows.{told}
use Rattle.ltl_bmc.proofs.Rowwise.{length_values, filled_length}
use Rattle.ltl_bmc.proofs.sweeps.along.Goals as goal

pub returns-clause-values : goal.returns-clause-values
returns-clause-values c values v =
    let k = length c.args.second.now in
    let f = told (values_of values c.args.first.now) in
    let g = told (values_of values c.args.second.now) in
    let first : length c.in_ok-row.row ≡ k = filled_length c.in_ok-row.row c.len.result _ c.in_ok-row.ensures ∙ c.len.ensures in
    record {
      has = length_values values c.sweep.new.row ∙ c.in_ok-sweep.ensures.places ∙ first;
      values = λ p w. c.in_ok-sweep.ensures.values values v p (omega arith) (omega arith)
          ∙ ap (λ i. ahead i f g (value_of values c.constant.result) p) first ∙ ap (λ x. ahead k f g x p) (c.constant.ensures.value _ values v);
    }
