use Rattle.std.proofs.Common.{take, drop, ap, ◌∙◌}
use Rattle.gates.specs.Valuation.{value_of}
use Rattle.gates.proofs.Growth.{AddsConjunctions-trans, Grows-refl, AddsConjunctions-refl}
use Rattle.gates.proofs.Meaning.{IsValuation-Grows}
use Rattle.word_bits.proofs.Circuits.{grown}
use Rattle.word_bits.proofs.Products.{divided}
use Rattle.word_bits.proofs.division.divide_bit.Goals as goal

pub returns-in_err-lowest-clause-grows : goal.returns-in_err-lowest-clause-grows
returns-in_err-lowest-clause-grows c = Grows-refl _

pub returns-in_err-lowest-clause-conjunctions : goal.returns-in_err-lowest-clause-conjunctions
returns-in_err-lowest-clause-conjunctions c = AddsConjunctions-refl _

pub returns-in_err-shifted-clause-grows : goal.returns-in_err-shifted-clause-grows
returns-in_err-shifted-clause-grows c = Grows-refl _

pub returns-in_err-shifted-clause-conjunctions : goal.returns-in_err-shifted-clause-conjunctions
returns-in_err-shifted-clause-conjunctions c = AddsConjunctions-refl _

pub returns-in_err-low-clause-grows : goal.returns-in_err-low-clause-grows
returns-in_err-low-clause-grows c = Grows-refl _

pub returns-in_err-low-clause-conjunctions : goal.returns-in_err-low-clause-conjunctions
returns-in_err-low-clause-conjunctions c = AddsConjunctions-refl _

pub returns-in_err-high-clause-grows : goal.returns-in_err-high-clause-grows
returns-in_err-high-clause-grows c = Grows-refl _

pub returns-in_err-high-clause-conjunctions : goal.returns-in_err-high-clause-conjunctions
returns-in_err-high-clause-conjunctions c = AddsConjunctions-refl _

pub returns-in_err-small-clause-conjunctions : goal.returns-in_err-small-clause-conjunctions
returns-in_err-small-clause-conjunctions c = AddsConjunctions-trans c.in_ok-difference.ensures.conjunctions c.in_err-small.ensures.conjunctions

pub returns-in_err-small-clause-grows : goal.returns-in_err-small-clause-grows
returns-in_err-small-clause-grows c = grown (returns-in_err-small-clause-conjunctions c)

pub returns-in_err-digit-clause-conjunctions : goal.returns-in_err-digit-clause-conjunctions
returns-in_err-digit-clause-conjunctions c = AddsConjunctions-trans c.in_ok-difference.ensures.conjunctions (AddsConjunctions-trans c.in_ok-small.ensures.conjunctions c.in_err-digit.ensures.conjunctions)

pub returns-in_err-digit-clause-grows : goal.returns-in_err-digit-clause-grows
returns-in_err-digit-clause-grows c = grown (returns-in_err-digit-clause-conjunctions c)

pub returns-in_err-rest-clause-conjunctions : goal.returns-in_err-rest-clause-conjunctions
returns-in_err-rest-clause-conjunctions c = AddsConjunctions-trans c.in_ok-difference.ensures.conjunctions (AddsConjunctions-trans c.in_ok-small.ensures.conjunctions (AddsConjunctions-trans c.in_ok-digit.ensures.conjunctions c.in_err-rest.ensures.conjunctions))

pub returns-in_err-rest-clause-grows : goal.returns-in_err-rest-clause-grows
returns-in_err-rest-clause-grows c = grown (returns-in_err-rest-clause-conjunctions c)

pub returns-clause-conjunctions : goal.returns-clause-conjunctions
returns-clause-conjunctions c = AddsConjunctions-trans c.in_ok-difference.ensures.conjunctions (AddsConjunctions-trans c.in_ok-small.ensures.conjunctions (AddsConjunctions-trans c.in_ok-digit.ensures.conjunctions c.in_ok-rest.ensures.conjunctions))

pub returns-clause-grows : goal.returns-clause-grows
returns-clause-grows c = grown (returns-clause-conjunctions c)

pub returns-clause-division : goal.returns-clause-division
returns-clause-division c values v below =
    let v2 = IsValuation-Grows c.in_ok-rest.ensures.grows v in
    let v1 = IsValuation-Grows c.in_ok-digit.ensures.grows v2 in
    let v0 = IsValuation-Grows c.in_ok-small.ensures.grows v1 in
    divided values c.args.remainder.now c.args.divisor.now c.in_ok-lowest.lowest c.in_ok-shifted.shifted c.in_ok-low.low c.in_ok-high.high c.in_ok-difference.difference c.in_ok-rest.rest
    c.args.bit (value_of values c.in_ok-small.small) (value_of values c.in_ok-difference.carry) (value_of values c.in_ok-digit.digit) c.requires.within
    c.in_ok-lowest.ensures c.in_ok-shifted.ensures.literals
    (c.in_ok-low.ensures ∙ ap (λ n. take n c.args.divisor.now) c.len.ensures.count) (c.in_ok-high.ensures ∙ ap (λ n. drop n c.args.divisor.now) c.len-2.ensures.count)
    (c.in_ok-difference.ensures.difference values v0) c.in_ok-difference.ensures.width (c.in_ok-small.ensures.meaning values v1)
    (c.in_ok-digit.ensures.meaning values v2) (c.in_ok-rest.ensures.number values v) below
