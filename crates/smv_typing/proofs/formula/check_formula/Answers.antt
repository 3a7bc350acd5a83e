use Rattle.smv_tree.specs.Models.{formula_claim}
use Rattle.smv_typing.specs.Formulas.{atoms, own_faults, faults_within, formula_faults}
use Rattle.smv_typing.proofs.Atoms.{head_first}
use Rattle.smv_typing.proofs.formula.check_formula.Goals as goal

pub returns : goal.returns
unfolding formula_faults
returns g c =
    let told = g.N.Names.told c.args.names.now in
    let es = atoms (formula_claim c.args.f.now) in
    head_first (own_faults told c.args.section es) (faults_within told es) c.in_ok-own.ensures.itself c.in_ok-own.ensures.inside c.earlier.ensures
