use Rattle.sat_core.specs.Gained.{gained}
use Rattle.sat_core.proofs.Meanings.{all_fresh}
use Rattle.sat_core.proofs.laws.learned_lines_are_fresh.Goals as goal

pub returns : goal.returns
returns c old new learned = all_fresh c.needed_line_is_fresh.ensures old (gained old new) learned
