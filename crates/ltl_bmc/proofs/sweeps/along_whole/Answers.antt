use Rattle.std.proofs.Common.{◌≡◌, true, length, refl, arith}
use Rattle.gates.specs.Valuation.{values_of}
use Rattle.ltl_form.specs.Rows.{told}
use Rattle.ltl_bmc.proofs.Rowwise.{if_ok, ahead_other, whole_told}
use Rattle.ltl_bmc.proofs.sweeps.along_whole.Goals as goal

pub returns-clause-values : goal.returns-clause-values
returns-clause-values c =
    let k = length c.args.second.now in
    let n : c.len.result ≡ k = c.len.ensures in
    if_ok c.along.result c.along.ensures.values
    (λ row h values v. ahead_other k (told (values_of values c.in_ok-whole.whole)) (told (values_of values c.args.second.now)) (λ _. true) (told (values_of values c.args.second.now)) (values_of values row)
    (λ q w. whole_told values c.in_ok-whole.whole c.len.result c.constant.result true q c.in_ok-whole.ensures (c.constant.ensures.value _ values v) (omega arith)) (λ q w. refl) (h values v))
