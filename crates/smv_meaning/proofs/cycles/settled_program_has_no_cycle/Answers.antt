use Rattle.smv_meaning.proofs.Orders.{settled_has_no_cycle}
use Rattle.smv_meaning.proofs.cycles.settled_program_has_no_cycle.Goals as goal

pub returns : goal.returns
returns c = settled_has_no_cycle
