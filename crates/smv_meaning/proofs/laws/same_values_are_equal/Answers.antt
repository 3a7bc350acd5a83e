use Rattle.smv_meaning.proofs.SameValues.{same_is_equal}
use Rattle.smv_meaning.proofs.laws.same_values_are_equal.Goals as goal

pub returns : goal.returns
returns c = same_is_equal
