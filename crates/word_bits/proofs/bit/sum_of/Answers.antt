use Rattle.std.proofs.Common.{ap, ◌∙◌}
use Rattle.gates.specs.Valuation.{value_of}
use Rattle.gates.proofs.Growth.{AddsConjunctions-trans}
use Rattle.gates.proofs.Meaning.{IsValuation-Grows}
use Rattle.word_bits.specs.Number.{xor}
use Rattle.word_bits.proofs.Circuits.{grown}
use Rattle.word_bits.proofs.bit.sum_of.Goals as goal

pub returns-in_err-sum-clause-conjunctions : goal.returns-in_err-sum-clause-conjunctions
returns-in_err-sum-clause-conjunctions c = AddsConjunctions-trans c.in_ok-apart.ensures.conjunctions c.in_err-sum.ensures.conjunctions

pub returns-in_err-sum-clause-grows : goal.returns-in_err-sum-clause-grows
returns-in_err-sum-clause-grows c = grown (returns-in_err-sum-clause-conjunctions c)

pub returns-clause-conjunctions : goal.returns-clause-conjunctions
returns-clause-conjunctions c = AddsConjunctions-trans c.in_ok-apart.ensures.conjunctions c.in_ok-sum.ensures.conjunctions

pub returns-clause-grows : goal.returns-clause-grows
returns-clause-grows c = grown (returns-clause-conjunctions c)

pub returns-clause-meaning : goal.returns-clause-meaning
returns-clause-meaning c values v =
    c.in_ok-sum.ensures.meaning values v
    ∙ ap (λ b. xor b (value_of values c.args.c)) (c.in_ok-apart.ensures.meaning values (IsValuation-Grows c.in_ok-sum.ensures.grows v))
