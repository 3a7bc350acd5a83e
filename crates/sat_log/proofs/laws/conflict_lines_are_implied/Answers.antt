use Rattle.sat_log.proofs.Implied.{log_true}
use Rattle.sat_log.proofs.laws.conflict_lines_are_implied.Goals as goal

pub returns : goal.returns
returns c = log_true
