use Rattle.smv_meaning.proofs.NoCycle.{without_cycle_settled}
use Rattle.smv_meaning.proofs.cycles.program_without_cycle_settles.Goals as goal

pub returns : goal.returns
returns c = without_cycle_settled
