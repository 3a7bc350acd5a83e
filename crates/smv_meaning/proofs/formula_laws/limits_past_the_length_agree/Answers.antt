use Rattle.smv_meaning.proofs.Truths.{same_truth}
use Rattle.smv_meaning.proofs.formula_laws.limits_past_the_length_agree.Goals as goal

pub returns : goal.returns
returns g c = λ m k l p f h b enough. same_truth k l m g.A.Atoms.holds h enough f p b
