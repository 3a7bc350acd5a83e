use Rattle.smv_meaning.proofs.RowsThere.{instance_around}
use Rattle.smv_meaning.proofs.rows.instances_stand_behind_others.Goals as goal

pub returns : goal.returns
returns c = instance_around
