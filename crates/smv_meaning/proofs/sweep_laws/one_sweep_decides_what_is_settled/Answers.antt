use Rattle.smv_meaning.proofs.Sweeping.{before_truth, up_to_truth}
use Rattle.smv_meaning.proofs.sweep_laws.one_sweep_decides_what_is_settled.Goals as goal

pub returns-clause-before : goal.returns-clause-before
returns-clause-before g c = before_truth g.S.Sides.first g.S.Sides.second

pub returns-clause-up_to : goal.returns-clause-up_to
returns-clause-up_to g c = up_to_truth g.S.Sides.first g.S.Sides.second
