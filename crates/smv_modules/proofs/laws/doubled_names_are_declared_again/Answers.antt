use Rattle.smv_modules.proofs.Agains.{listed_again, again_listed}
use Rattle.smv_modules.proofs.laws.doubled_names_are_declared_again.Goals as goal

pub returns : goal.returns
returns c = λ ds f. (listed_again ds f, again_listed ds f)
