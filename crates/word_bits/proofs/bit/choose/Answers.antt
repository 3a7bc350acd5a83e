use Rattle.std.proofs.Common.{◌∙◌, ◌||◌, ◌&&◌}
use Rattle.gates.specs.Valuation.{value_of}
use Rattle.gates.proofs.Growth.{AddsConjunctions-trans}
use Rattle.gates.proofs.Meaning.{IsValuation-Grows}
use Rattle.word_bits.proofs.Circuits.{choice-gates, grown}
use Rattle.word_bits.proofs.bit.choose.Goals as goal

pub returns-in_err-second-clause-conjunctions : goal.returns-in_err-second-clause-conjunctions
returns-in_err-second-clause-conjunctions c = AddsConjunctions-trans c.in_ok-first.ensures.conjunctions c.in_err-second.ensures.conjunctions

pub returns-in_err-second-clause-grows : goal.returns-in_err-second-clause-grows
returns-in_err-second-clause-grows c = grown (returns-in_err-second-clause-conjunctions c)

pub returns-in_err-chosen-clause-conjunctions : goal.returns-in_err-chosen-clause-conjunctions
returns-in_err-chosen-clause-conjunctions c = AddsConjunctions-trans c.in_ok-first.ensures.conjunctions (AddsConjunctions-trans c.in_ok-second.ensures.conjunctions c.in_err-chosen.ensures.conjunctions)

pub returns-in_err-chosen-clause-grows : goal.returns-in_err-chosen-clause-grows
returns-in_err-chosen-clause-grows c = grown (returns-in_err-chosen-clause-conjunctions c)

pub returns-clause-conjunctions : goal.returns-clause-conjunctions
returns-clause-conjunctions c = AddsConjunctions-trans c.in_ok-first.ensures.conjunctions (AddsConjunctions-trans c.in_ok-second.ensures.conjunctions c.in_ok-chosen.ensures.conjunctions)

pub returns-clause-grows : goal.returns-clause-grows
returns-clause-grows c = grown (returns-clause-conjunctions c)

pub returns-clause-meaning : goal.returns-clause-meaning
returns-clause-meaning c values v =
    let v2 = IsValuation-Grows c.in_ok-chosen.ensures.grows v in
    let v1 = IsValuation-Grows c.in_ok-second.ensures.grows v2 in
    let second = c.in_ok-second.ensures.meaning values v2 ∙ (λ i. c.lit_not.ensures.value values i && value_of values c.args.b) in
    c.in_ok-chosen.ensures.meaning values v ∙ (λ i. c.in_ok-first.ensures.meaning values v1 i || second i)
    ∙ choice-gates (value_of values c.args.c) (value_of values c.args.a) (value_of values c.args.b)
