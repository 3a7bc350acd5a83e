use Rattle.smv_meaning.proofs.SameValues.{member_decides, member_of_none}
use Rattle.smv_meaning.proofs.laws.member_is_one_value.Goals as goal

pub returns-clause-among : goal.returns-clause-among
returns-clause-among c = member_decides

pub returns-clause-some : goal.returns-clause-some
returns-clause-some c = member_of_none
