use Rattle.std.proofs.Common.{subst}
use Rattle.sat_log.specs.Accepted.{IsLog}
use Rattle.sat_log.specs.Checking.{AreUpTo}
use Rattle.sat_core.specs.Gained.{gained}
use Rattle.sat_core.proofs.Meanings.{all_fresh}
use Rattle.sat_core.proofs.laws.learned_lines_are_few.Goals as goal

pub returns : goal.returns
returns c n old new is_log up longer learned =
    c.fresh_lines_are_few.ensures n old (gained old new) (subst IsLog longer is_log) (subst (AreUpTo n) longer up) (all_fresh c.needed_line_is_fresh.ensures old (gained old new) learned)
