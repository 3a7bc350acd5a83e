use Rattle.sat_log.proofs.Implied.{next_true}
use Rattle.sat_log.proofs.laws.accepted_line_is_implied.Goals as goal

pub returns : goal.returns
returns c = next_true
