use Rattle.std.proofs.Common.{◌-◌, get_or, ap, ◌∙◌}
use Rattle.gates.specs.Literal.{always}
use Rattle.gates.specs.Valuation.{value_of}
use Rattle.gates.proofs.Growth.{AddsConjunctions-trans}
use Rattle.gates.proofs.Meaning.{IsValuation-Grows}
use Rattle.word_bits.proofs.Circuits.{grown}
use Rattle.word_bits.proofs.Quotients.{divided_by_sizes}
use Rattle.word_bits.proofs.division.sdiv_rem.Goals as goal

pub returns-in_err-divisor-clause-conjunctions : goal.returns-in_err-divisor-clause-conjunctions
returns-in_err-divisor-clause-conjunctions c = AddsConjunctions-trans c.in_ok-dividend.ensures.conjunctions c.in_err-divisor.ensures.conjunctions

pub returns-in_err-divisor-clause-grows : goal.returns-in_err-divisor-clause-grows
returns-in_err-divisor-clause-grows c = grown (returns-in_err-divisor-clause-conjunctions c)

pub returns-in_err-quotient-clause-conjunctions : goal.returns-in_err-quotient-clause-conjunctions
returns-in_err-quotient-clause-conjunctions c = AddsConjunctions-trans c.in_ok-dividend.ensures.conjunctions (AddsConjunctions-trans c.in_ok-divisor.ensures.conjunctions c.in_err-quotient.ensures.conjunctions)

pub returns-in_err-quotient-clause-grows : goal.returns-in_err-quotient-clause-grows
returns-in_err-quotient-clause-grows c = grown (returns-in_err-quotient-clause-conjunctions c)

pub returns-in_err-apart-clause-conjunctions : goal.returns-in_err-apart-clause-conjunctions
returns-in_err-apart-clause-conjunctions c = AddsConjunctions-trans c.in_ok-dividend.ensures.conjunctions (AddsConjunctions-trans c.in_ok-divisor.ensures.conjunctions (AddsConjunctions-trans c.in_ok-quotient.ensures.conjunctions c.in_err-apart.ensures.conjunctions))

pub returns-in_err-apart-clause-grows : goal.returns-in_err-apart-clause-grows
returns-in_err-apart-clause-grows c = grown (returns-in_err-apart-clause-conjunctions c)

pub returns-in_err-signed_quotient-clause-conjunctions : goal.returns-in_err-signed_quotient-clause-conjunctions
returns-in_err-signed_quotient-clause-conjunctions c = AddsConjunctions-trans c.in_ok-dividend.ensures.conjunctions (AddsConjunctions-trans c.in_ok-divisor.ensures.conjunctions (AddsConjunctions-trans c.in_ok-quotient.ensures.conjunctions (AddsConjunctions-trans c.in_ok-apart.ensures.conjunctions c.in_err-signed_quotient.ensures.conjunctions)))

pub returns-in_err-signed_quotient-clause-grows : goal.returns-in_err-signed_quotient-clause-grows
returns-in_err-signed_quotient-clause-grows c = grown (returns-in_err-signed_quotient-clause-conjunctions c)

pub returns-in_err-signed_remainder-clause-conjunctions : goal.returns-in_err-signed_remainder-clause-conjunctions
returns-in_err-signed_remainder-clause-conjunctions c = AddsConjunctions-trans c.in_ok-dividend.ensures.conjunctions (AddsConjunctions-trans c.in_ok-divisor.ensures.conjunctions (AddsConjunctions-trans c.in_ok-quotient.ensures.conjunctions (AddsConjunctions-trans c.in_ok-apart.ensures.conjunctions (AddsConjunctions-trans c.in_ok-signed_quotient.ensures.conjunctions c.in_err-signed_remainder.ensures.conjunctions))))

pub returns-in_err-signed_remainder-clause-grows : goal.returns-in_err-signed_remainder-clause-grows
returns-in_err-signed_remainder-clause-grows c = grown (returns-in_err-signed_remainder-clause-conjunctions c)

pub returns-clause-conjunctions : goal.returns-clause-conjunctions
returns-clause-conjunctions c = AddsConjunctions-trans c.in_ok-dividend.ensures.conjunctions (AddsConjunctions-trans c.in_ok-divisor.ensures.conjunctions (AddsConjunctions-trans c.in_ok-quotient.ensures.conjunctions (AddsConjunctions-trans c.in_ok-apart.ensures.conjunctions (AddsConjunctions-trans c.in_ok-signed_quotient.ensures.conjunctions c.in_ok-signed_remainder.ensures.conjunctions))))

pub returns-clause-grows : goal.returns-clause-grows
returns-clause-grows c = grown (returns-clause-conjunctions c)

pub returns-clause-quotient : goal.returns-clause-quotient
returns-clause-quotient c values v positive =
    let v5 = IsValuation-Grows c.in_ok-signed_remainder.ensures.grows v in
    let v4 = IsValuation-Grows c.in_ok-signed_quotient.ensures.grows v5 in
    let v3 = IsValuation-Grows c.in_ok-apart.ensures.grows v4 in
    let v2 = IsValuation-Grows c.in_ok-quotient.ensures.grows v3 in
    let v1 = IsValuation-Grows c.in_ok-divisor.ensures.grows v2 in
    (divided_by_sizes values c.args.a.now c.args.b.now c.in_ok-dividend.dividend c.in_ok-divisor.divisor c.in_ok-quotient.quotient c.in_ok-quotient.remainder c.in_ok-signed_quotient.signed_quotient c.in_ok-signed_remainder.signed_remainder
    c.get-sign.result c.get-other.result (value_of values c.in_ok-apart.apart) c.requires.bits c.requires.widths
    (c.get-sign.ensures ∙ ap (λ n. get_or c.args.a.now (n - 1) always) c.len.ensures.count) (c.get-other.ensures ∙ ap (λ n. get_or c.args.b.now (n - 1) always) c.len-2.ensures.count)
    (c.in_ok-dividend.ensures.number values v1) (c.in_ok-divisor.ensures.number values v2)
    (c.in_ok-quotient.ensures.quotient_width ∙ c.in_ok-dividend.ensures.width) (c.in_ok-quotient.ensures.remainder_width ∙ c.in_ok-dividend.ensures.width)
    (c.in_ok-quotient.ensures.quotient values v3) (c.in_ok-quotient.ensures.remainder values v3) (c.in_ok-apart.ensures.meaning values v4)
    (c.in_ok-signed_quotient.ensures.number values v5) (c.in_ok-signed_remainder.ensures.number values v) positive).0

pub returns-clause-remainder : goal.returns-clause-remainder
returns-clause-remainder c values v positive =
    let v5 = IsValuation-Grows c.in_ok-signed_remainder.ensures.grows v in
    let v4 = IsValuation-Grows c.in_ok-signed_quotient.ensures.grows v5 in
    let v3 = IsValuation-Grows c.in_ok-apart.ensures.grows v4 in
    let v2 = IsValuation-Grows c.in_ok-quotient.ensures.grows v3 in
    let v1 = IsValuation-Grows c.in_ok-divisor.ensures.grows v2 in
    (divided_by_sizes values c.args.a.now c.args.b.now c.in_ok-dividend.dividend c.in_ok-divisor.divisor c.in_ok-quotient.quotient c.in_ok-quotient.remainder c.in_ok-signed_quotient.signed_quotient c.in_ok-signed_remainder.signed_remainder
    c.get-sign.result c.get-other.result (value_of values c.in_ok-apart.apart) c.requires.bits c.requires.widths
    (c.get-sign.ensures ∙ ap (λ n. get_or c.args.a.now (n - 1) always) c.len.ensures.count) (c.get-other.ensures ∙ ap (λ n. get_or c.args.b.now (n - 1) always) c.len-2.ensures.count)
    (c.in_ok-dividend.ensures.number values v1) (c.in_ok-divisor.ensures.number values v2)
    (c.in_ok-quotient.ensures.quotient_width ∙ c.in_ok-dividend.ensures.width) (c.in_ok-quotient.ensures.remainder_width ∙ c.in_ok-dividend.ensures.width)
    (c.in_ok-quotient.ensures.quotient values v3) (c.in_ok-quotient.ensures.remainder values v3) (c.in_ok-apart.ensures.meaning values v4)
    (c.in_ok-signed_quotient.ensures.number values v5) (c.in_ok-signed_remainder.ensures.number values v) positive).1
