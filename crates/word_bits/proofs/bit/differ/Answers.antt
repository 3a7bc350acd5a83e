use Rattle.std.proofs.Common.{◌&&◌, not, ◌∙◌}
use Rattle.gates.specs.Valuation.{value_of}
use Rattle.gates.proofs.Growth.{AddsConjunctions-trans}
use Rattle.gates.proofs.Meaning.{IsValuation-Grows}
use Rattle.word_bits.proofs.Circuits.{xor-gates, grown}
use Rattle.word_bits.proofs.bit.differ.Goals as goal

pub returns-in_err-neither-clause-conjunctions : goal.returns-in_err-neither-clause-conjunctions
returns-in_err-neither-clause-conjunctions c = AddsConjunctions-trans c.in_ok-both.ensures.conjunctions c.in_err-neither.ensures.conjunctions

pub returns-in_err-neither-clause-grows : goal.returns-in_err-neither-clause-grows
returns-in_err-neither-clause-grows c = grown (returns-in_err-neither-clause-conjunctions c)

pub returns-in_err-differ-clause-conjunctions : goal.returns-in_err-differ-clause-conjunctions
returns-in_err-differ-clause-conjunctions c = AddsConjunctions-trans c.in_ok-both.ensures.conjunctions (AddsConjunctions-trans c.in_ok-neither.ensures.conjunctions c.in_err-differ.ensures.conjunctions)

pub returns-in_err-differ-clause-grows : goal.returns-in_err-differ-clause-grows
returns-in_err-differ-clause-grows c = grown (returns-in_err-differ-clause-conjunctions c)

pub returns-clause-conjunctions : goal.returns-clause-conjunctions
returns-clause-conjunctions c = AddsConjunctions-trans c.in_ok-both.ensures.conjunctions (AddsConjunctions-trans c.in_ok-neither.ensures.conjunctions c.in_ok-differ.ensures.conjunctions)

pub returns-clause-grows : goal.returns-clause-grows
returns-clause-grows c = grown (returns-clause-conjunctions c)

pub returns-clause-meaning : goal.returns-clause-meaning
returns-clause-meaning c values v =
    let v2 = IsValuation-Grows c.in_ok-differ.ensures.grows v in
    let v1 = IsValuation-Grows c.in_ok-neither.ensures.grows v2 in
    let both = c.in_ok-both.ensures.meaning values v1 in
    let neither = c.in_ok-neither.ensures.meaning values v2 in
    c.in_ok-differ.ensures.meaning values v
    ∙ (λ i. (c.lit_not-3.ensures.value values ∙ (λ j. not (both j))) i
    && (c.lit_not-4.ensures.value values ∙ (λ j. not ((neither ∙ (λ k. c.lit_not.ensures.value values k && c.lit_not-2.ensures.value values k)) j))) i)
    ∙ xor-gates (value_of values c.args.a) (value_of values c.args.b)
