use Rattle.std.proofs.Common.{sym, ◌∙◌}
use Rattle.gates.proofs.Meaning.{value_of-constant}
use Rattle.ltl_bmc.proofs.literal.constant.Goals as goal

pub returns-else-value-clause-value : goal.returns-else-value-clause-value
returns-else-value-clause-value c nodes values v = (value_of-constant v).1 ∙ sym c.if-value.false
