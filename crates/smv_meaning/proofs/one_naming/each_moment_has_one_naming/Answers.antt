use Rattle.smv_meaning.proofs.Settling.{naming_there, naming_one}
use Rattle.smv_meaning.proofs.one_naming.each_moment_has_one_naming.Goals as goal

pub returns : goal.returns
returns c = record { there = naming_there; one = naming_one }
