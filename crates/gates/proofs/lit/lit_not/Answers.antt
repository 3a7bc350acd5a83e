use Rattle.std.proofs.Common.{ap, ◌∙◌}
use Rattle.gates.specs.Valuation.{value_of}
use Rattle.gates.proofs.Meaning.{value_of-negated}
use Rattle.gates.proofs.lit.lit_not.Goals as goal

pub returns-clause-value : goal.returns-clause-value
returns-clause-value c values = ap (value_of values) c.flipped.ensures ∙ value_of-negated values c.args.a
