use Rattle.std.proofs.Common.{◌≡◌, ◌&&◌, false, length, refl, subst}
use Rattle.gates.specs.Valuation.{values_of}
use Rattle.gates.proofs.Meaning.{IsValuation-Grows}
use Rattle.smv_meaning.specs.Sweeps.{ahead}
use Rattle.ltl_form.specs.Rows.{told, IsRow}
use Rattle.ltl_bmc.proofs.Rowwise.{if_ok, ahead_other}
use Rattle.ltl_bmc.proofs.sweeps.along_both.Goals as goal

pub returns-clause-values : goal.returns-clause-values
returns-clause-values c =
    let k = length c.args.second.now in
    let n : length c.in_ok-joint.joint ≡ k = c.in_ok-joint.ensures.places in
    if_ok c.along.result c.along.ensures.values
    (λ row h values v.
    let f = told (values_of values c.args.first.now) in
    let g = told (values_of values c.args.second.now) in
    let j = told (values_of values c.in_ok-joint.joint) in
    let joint = c.in_ok-joint.ensures.values values (IsValuation-Grows c.along.ensures.grows v) in
    ahead_other k g j g (λ q. f q && g q) (values_of values row) (λ q w. refl) (λ q w. joint.values q w)
    (subst (λ m. IsRow m (ahead m g j false) (values_of values row)) n (h values v)))
