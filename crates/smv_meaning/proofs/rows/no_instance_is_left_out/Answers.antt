use Rattle.smv_meaning.proofs.AllInstances.{all_entries}
use Rattle.smv_meaning.proofs.rows.no_instance_is_left_out.Goals as goal

pub returns : goal.returns
returns c = λ program n none. all_entries program none n
