use Rattle.std.proofs.Common.{ap, cond, ◌∙◌}
use Rattle.gates.specs.Valuation.{value_of}
use Rattle.gates.proofs.Growth.{AddsConjunctions-trans}
use Rattle.gates.proofs.Meaning.{IsValuation-Grows}
use Rattle.word_bits.specs.Words.{unsigned}
use Rattle.word_bits.proofs.Circuits.{grown}
use Rattle.word_bits.proofs.division.negate_where.Goals as goal

pub returns-in_err-chosen-clause-conjunctions : goal.returns-in_err-chosen-clause-conjunctions
returns-in_err-chosen-clause-conjunctions c = AddsConjunctions-trans c.in_ok-negation.ensures.conjunctions c.in_err-chosen.ensures.conjunctions

pub returns-in_err-chosen-clause-grows : goal.returns-in_err-chosen-clause-grows
returns-in_err-chosen-clause-grows c = grown (returns-in_err-chosen-clause-conjunctions c)

pub returns-clause-conjunctions : goal.returns-clause-conjunctions
returns-clause-conjunctions c = AddsConjunctions-trans c.in_ok-negation.ensures.conjunctions c.in_ok-chosen.ensures.conjunctions

pub returns-clause-grows : goal.returns-clause-grows
returns-clause-grows c = grown (returns-clause-conjunctions c)

pub returns-clause-number : goal.returns-clause-number
returns-clause-number c values v =
    c.in_ok-chosen.ensures.number values v
    ∙ ap (λ n. cond (value_of values c.args.c) n (unsigned values c.args.a.now)) (c.in_ok-negation.ensures.negation values (IsValuation-Grows c.in_ok-chosen.ensures.grows v))
