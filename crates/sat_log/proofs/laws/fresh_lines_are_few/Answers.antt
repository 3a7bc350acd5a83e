use Rattle.sat_log.proofs.FreshBound.{few_fresh}
use Rattle.sat_log.proofs.laws.fresh_lines_are_few.Goals as goal

pub returns : goal.returns
returns c = few_fresh
