use Rattle.smv_meaning.proofs.Truths.{truth_decided}
use Rattle.smv_meaning.proofs.formula_laws.truth_is_decided.Goals as goal

pub returns : goal.returns
returns g c = λ k l p f h b each. truth_decided k l g.A.Atoms.holds h each f p b
