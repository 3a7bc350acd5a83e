use Rattle.smv_meaning.proofs.Fronts.{front_of_run}
use Rattle.smv_meaning.proofs.laws.front_of_run_is_run.Goals as goal

pub returns : goal.returns
returns c = front_of_run
