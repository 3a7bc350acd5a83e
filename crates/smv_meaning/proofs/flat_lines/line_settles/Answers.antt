use Rattle.smv_meaning.proofs.Orders.{lined_is_settled}
use Rattle.smv_meaning.proofs.flat_lines.line_settles.Goals as goal

pub returns : goal.returns
returns c = lined_is_settled
