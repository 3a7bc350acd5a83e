use Rattle.smv_names.proofs.Wholeness.{whole}
use Rattle.smv_names.proofs.laws.modules_make_whole.Goals as goal

pub returns : goal.returns
returns c program names references acyclic = whole program names references acyclic
