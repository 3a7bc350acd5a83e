use Rattle.std.proofs.Common.{◌≡◌, length, ◌∙◌}
use Rattle.gates.specs.Valuation.{value_of, values_of}
use Rattle.gates.proofs.Meaning.{IsValuation-Grows}
use Rattle.ltl_form.specs.Rows.{told}
use Rattle.ltl_bmc.proofs.Rowwise.{around_told, length_values, filled_length}
use Rattle.ltl_bmc.proofs.sweeps.around.Goals as goal

pub returns-clause-values : goal.returns-clause-values
returns-clause-values c values v =
    let k = length c.args.second.now in
    let first : length c.in_ok-row.row ≡ k = filled_length c.in_ok-row.row c.len.result c.constant-end.result c.in_ok-row.ensures ∙ c.len.ensures in
    let second : length c.sweep.new.row ≡ k = c.in_ok-found.ensures.places ∙ first in
    let v1 = IsValuation-Grows c.in_ok-sweep.ensures.grows v in
    around_told c.args.dual k c.args.start (length c.in_ok-row.row) (length c.sweep.new.row) (told (values_of values c.args.first.now)) (told (values_of values c.args.second.now)) (values_of values c.sweep-2.new.row)
    (value_of values c.in_ok-found.found) (value_of values c.constant-end.result) first second (length_values values c.sweep-2.new.row ∙ c.in_ok-sweep.ensures.places ∙ second)
    (c.constant-end.ensures.value _ values v) (c.in_ok-found.ensures.found values v1) (c.in_ok-sweep.ensures.values values v)
