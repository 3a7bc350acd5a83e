use Rattle.sat_log.proofs.NeededFresh.{needed_fresh}
use Rattle.sat_log.proofs.laws.needed_line_is_fresh.Goals as goal

pub returns : goal.returns
returns c = needed_fresh
