use Rattle.std.proofs.Common.{not, ◌∙◌, ◌&&◌}
use Rattle.gates.specs.Valuation.{value_of}
use Rattle.word_bits.proofs.Circuits.{or-gates}
use Rattle.word_bits.proofs.bit.or.Goals as goal

pub returns-clause-meaning : goal.returns-clause-meaning
returns-clause-meaning c values v =
    c.lit_not-3.ensures.value values
    ∙ (λ i. not ((c.in_ok-neither.ensures.meaning values v ∙ (λ j. c.lit_not.ensures.value values j && c.lit_not-2.ensures.value values j)) i))
    ∙ or-gates (value_of values c.args.a) (value_of values c.args.b)
