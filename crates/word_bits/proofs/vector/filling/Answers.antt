use Rattle.std.proofs.Common.{◌&&◌, ap, sym, ◌∙◌}
use Rattle.gates.specs.Valuation.{values_of}
use Rattle.gates.proofs.Meaning.{value_of-constant}
use Rattle.word_bits.specs.Number.{top}
use Rattle.word_bits.proofs.vector.filling.Goals as goal

pub returns-else-copy_sign-clause-value : goal.returns-else-copy_sign-clause-value
returns-else-copy_sign-clause-value c nodes values v = (value_of-constant v).1 ∙ sym (ap (λ b. b && top (values_of values c.args.a.now)) c.if-copy_sign.false)
