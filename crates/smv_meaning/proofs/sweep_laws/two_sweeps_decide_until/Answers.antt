use Rattle.smv_meaning.proofs.Sweeping.{around_truth}
use Rattle.smv_meaning.proofs.sweep_laws.two_sweeps_decide_until.Goals as goal

pub returns : goal.returns
returns g c = λ k l f s h df ds. around_truth g.S.Sides.first g.S.Sides.second k l h f s df ds
