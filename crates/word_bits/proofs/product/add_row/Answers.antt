use Rattle.std.proofs.Common.{◌-◌, cond, take, ap, ◌∙◌}
use Rattle.gates.specs.Valuation.{value_of}
use Rattle.gates.proofs.Growth.{AddsConjunctions-trans, Grows-refl, AddsConjunctions-refl}
use Rattle.gates.proofs.Meaning.{IsValuation-Grows}
use Rattle.word_bits.specs.Words.{unsigned}
use Rattle.word_bits.proofs.Circuits.{grown}
use Rattle.word_bits.proofs.Numbers.{unsigned-zeros}
use Rattle.word_bits.proofs.Products.{row_spelled}
use Rattle.word_bits.proofs.product.add_row.Goals as goal

pub returns-in_err-zeros-clause-grows : goal.returns-in_err-zeros-clause-grows
returns-in_err-zeros-clause-grows c = Grows-refl _

pub returns-in_err-zeros-clause-conjunctions : goal.returns-in_err-zeros-clause-conjunctions
returns-in_err-zeros-clause-conjunctions c = AddsConjunctions-refl _

pub returns-in_err-part-clause-grows : goal.returns-in_err-part-clause-grows
returns-in_err-part-clause-grows c = Grows-refl _

pub returns-in_err-part-clause-conjunctions : goal.returns-in_err-part-clause-conjunctions
returns-in_err-part-clause-conjunctions c = AddsConjunctions-refl _

pub returns-in_err-sum-clause-conjunctions : goal.returns-in_err-sum-clause-conjunctions
returns-in_err-sum-clause-conjunctions c = AddsConjunctions-trans c.in_ok-row.ensures.conjunctions c.in_err-sum.ensures.conjunctions

pub returns-in_err-sum-clause-grows : goal.returns-in_err-sum-clause-grows
returns-in_err-sum-clause-grows c = grown (returns-in_err-sum-clause-conjunctions c)

pub returns-in_err-whole-clause-conjunctions : goal.returns-in_err-whole-clause-conjunctions
returns-in_err-whole-clause-conjunctions c = AddsConjunctions-trans c.in_ok-row.ensures.conjunctions c.in_ok-sum.ensures.conjunctions

pub returns-in_err-whole-clause-grows : goal.returns-in_err-whole-clause-grows
returns-in_err-whole-clause-grows c = grown (returns-in_err-whole-clause-conjunctions c)

pub returns-clause-conjunctions : goal.returns-clause-conjunctions
returns-clause-conjunctions c = AddsConjunctions-trans c.in_ok-row.ensures.conjunctions c.in_ok-sum.ensures.conjunctions

pub returns-clause-grows : goal.returns-clause-grows
returns-clause-grows c = grown (returns-clause-conjunctions c)

pub returns-clause-sum : goal.returns-clause-sum
returns-clause-sum c values v =
    let v0 = IsValuation-Grows c.in_ok-sum.ensures.grows v in
    let none = ap (unsigned values) c.in_ok-zeros.ensures ∙ unsigned-zeros v0 _ in
    row_spelled values c.args.product.now c.args.a.now c.in_ok-low.low c.in_ok-high.high c.in_ok-part.part c.in_ok-row.row c.in_ok-sum.sum c.in_ok-whole.whole
    c.args.at (value_of values c.args.bit) c.requires.within c.requires.widths c.in_ok-low.ensures c.in_ok-high.ensures
    (c.in_ok-part.ensures ∙ ap (λ n. take (n - c.args.at) c.args.a.now) c.len.ensures.count)
    (c.in_ok-row.ensures.number values v0 ∙ ap (λ n. cond (value_of values c.args.bit) (unsigned values c.in_ok-part.part) n) none)
    (c.in_ok-sum.ensures.sum values v) c.in_ok-sum.ensures.width c.in_ok-whole.ensures.literals
