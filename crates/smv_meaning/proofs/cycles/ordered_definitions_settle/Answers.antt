use Rattle.smv_meaning.proofs.Orders.{ordered_is_settled}
use Rattle.smv_meaning.proofs.cycles.ordered_definitions_settle.Goals as goal

pub returns : goal.returns
returns c = ordered_is_settled
