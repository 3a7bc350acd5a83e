use Rattle.std.proofs.Common.{◌≡◌, ◌+◌, ◌-◌, ◌*◌, ◌^◌, ◌<◌, ◌∙◌, length, arith, ap, subst}
use Rattle.std.proofs.lemmas.List.{length-replicate}
use Rattle.gates.specs.Valuation.{value_of}
use Rattle.gates.proofs.Growth.{Grows-refl, AddsConjunctions-refl}
use Rattle.word_bits.specs.Number.{digit}
use Rattle.word_bits.specs.Words.{unsigned}
use Rattle.word_bits.proofs.Numbers.{remainder_from_carry, unsigned-below, unsigned-zeros}
use Rattle.word_bits.proofs.sum.neg.Goals as goal

pub returns-in_err-zero-clause-grows : goal.returns-in_err-zero-clause-grows
returns-in_err-zero-clause-grows c = Grows-refl _

pub returns-in_err-zero-clause-conjunctions : goal.returns-in_err-zero-clause-conjunctions
returns-in_err-zero-clause-conjunctions c = AddsConjunctions-refl _

pub returns-clause-negation : goal.returns-clause-negation
returns-clause-negation c values v =
    let a = c.args.a.now in
    let p = 2 ^ length a in
    let s = c.in_ok-negation.negation in
    let width : length c.in_ok-zero.zero ≡ length a = ap length c.in_ok-zero.ensures ∙ length-replicate _ _ ∙ c.len.ensures.count in
    let small : unsigned values s < p = subst (λ n. unsigned values s < 2 ^ n) (c.in_ok-negation.ensures.width ∙ width) (unsigned-below values s) in
    let none : unsigned values c.in_ok-zero.zero ≡ 0 = ap (unsigned values) c.in_ok-zero.ensures ∙ unsigned-zeros v _ in
    let all = subst (λ n. unsigned values s + 2 ^ n * digit (value_of values c.in_ok-negation._carry) + unsigned values a ≡ unsigned values c.in_ok-zero.zero + 2 ^ n) width (c.in_ok-negation.ensures.difference values v) in
    remainder_from_carry (unsigned values s) p (digit (value_of values c.in_ok-negation._carry)) (p - unsigned values a) small
    (omega (arith, all, none, unsigned-below values a))
