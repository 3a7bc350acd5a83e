use Rattle.std.proofs.Common.{◌≡◌, not, length, arith}
use Rattle.gates.specs.Valuation.{values_of}
use Rattle.ltl_form.specs.Rows.{told}
use Rattle.ltl_bmc.proofs.Rowwise.{if_ok, around_other, whole_told}
use Rattle.ltl_bmc.proofs.sweeps.around_whole.Goals as goal

pub returns-clause-values : goal.returns-clause-values
returns-clause-values c =
    let k = length c.args.second.now in
    let d = c.args.dual in
    let n : c.len.result ≡ k = c.len.ensures in
    if_ok c.around.result c.around.ensures.values
    (λ row h values v. around_other d k c.args.start (told (values_of values c.in_ok-whole.whole)) (λ _. not d) (told (values_of values c.args.second.now)) (values_of values row) c.requires.start
    (λ q w. whole_told values c.in_ok-whole.whole c.len.result c.constant.result (not d) q c.in_ok-whole.ensures (c.constant.ensures.value _ values v) (omega arith)) (h values v))
