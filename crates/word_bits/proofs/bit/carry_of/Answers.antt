use Rattle.std.proofs.Common.{◌&&◌, ◌||◌, ◌∙◌}
use Rattle.gates.specs.Valuation.{value_of}
use Rattle.gates.proofs.Growth.{Grows-trans, AddsConjunctions-trans}
use Rattle.gates.proofs.Meaning.{IsValuation-Grows}
use Rattle.word_bits.proofs.Circuits.{grown, carry-gates}
use Rattle.word_bits.proofs.bit.carry_of.Goals as goal

pub returns-in_err-apart-clause-grows : goal.returns-in_err-apart-clause-grows
returns-in_err-apart-clause-grows c = c.differ.ensures.grows

pub returns-in_err-apart-clause-conjunctions : goal.returns-in_err-apart-clause-conjunctions
returns-in_err-apart-clause-conjunctions c = c.differ.ensures.conjunctions

pub returns-in_err-both-clause-grows : goal.returns-in_err-both-clause-grows
returns-in_err-both-clause-grows c = Grows-trans c.differ.ensures.grows c.and.ensures.grows

pub returns-in_err-both-clause-conjunctions : goal.returns-in_err-both-clause-conjunctions
returns-in_err-both-clause-conjunctions c = AddsConjunctions-trans c.differ.ensures.conjunctions c.and.ensures.conjunctions

pub returns-in_err-through-clause-conjunctions : goal.returns-in_err-through-clause-conjunctions
returns-in_err-through-clause-conjunctions c = AddsConjunctions-trans c.differ.ensures.conjunctions (AddsConjunctions-trans c.and.ensures.conjunctions c.and-2.ensures.conjunctions)

pub returns-in_err-through-clause-grows : goal.returns-in_err-through-clause-grows
returns-in_err-through-clause-grows c = grown (returns-in_err-through-clause-conjunctions c)

pub returns-in_err-carry-clause-conjunctions : goal.returns-in_err-carry-clause-conjunctions
returns-in_err-carry-clause-conjunctions c = AddsConjunctions-trans c.differ.ensures.conjunctions (AddsConjunctions-trans c.and.ensures.conjunctions (AddsConjunctions-trans c.and-2.ensures.conjunctions c.or.ensures.conjunctions))

pub returns-in_err-carry-clause-grows : goal.returns-in_err-carry-clause-grows
returns-in_err-carry-clause-grows c = grown (returns-in_err-carry-clause-conjunctions c)

pub returns-clause-conjunctions : goal.returns-clause-conjunctions
returns-clause-conjunctions c = AddsConjunctions-trans c.differ.ensures.conjunctions (AddsConjunctions-trans c.and.ensures.conjunctions (AddsConjunctions-trans c.and-2.ensures.conjunctions c.or.ensures.conjunctions))

pub returns-clause-grows : goal.returns-clause-grows
returns-clause-grows c = grown (returns-clause-conjunctions c)

pub returns-clause-meaning : goal.returns-clause-meaning
returns-clause-meaning c values v =
    let v3 = IsValuation-Grows c.in_ok-carry.ensures.grows v in
    let v2 = IsValuation-Grows c.in_ok-through.ensures.grows v3 in
    let v1 = IsValuation-Grows c.in_ok-both.ensures.grows v2 in
    let through = c.in_ok-through.ensures.meaning values v3 ∙ (λ i. c.in_ok-apart.ensures.meaning values v1 i && value_of values c.args.c) in
    c.in_ok-carry.ensures.meaning values v ∙ (λ i. c.in_ok-both.ensures.meaning values v2 i || through i)
    ∙ carry-gates (value_of values c.args.a) (value_of values c.args.b) (value_of values c.args.c)
