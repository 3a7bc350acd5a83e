use Rattle.std.proofs.Common.{true, false}
use Rattle.ltl_form.proofs.Normals.{normal_true, normal_settled}
use Rattle.ltl_form.proofs.laws.normal_forms_say_the_same.Goals as goal

pub returns-clause-plain : goal.returns-clause-plain
returns-clause-plain g c = λ k l p f h b each. normal_true k l g.A.Atoms.holds h each false f p b

pub returns-clause-negated : goal.returns-clause-negated
returns-clause-negated g c = λ k l p f h b each. normal_true k l g.A.Atoms.holds h each true f p b

pub returns-clause-settled : goal.returns-clause-settled
returns-clause-settled g c = λ k p b f. normal_settled k g.A.Atoms.holds b f p
