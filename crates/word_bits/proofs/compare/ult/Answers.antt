use Rattle.std.proofs.Common.{◌≡◌, ◌+◌, ◌^◌, ◌<◌, not, leb, length, ◌∙◌, ap, subst, sym}
use Rattle.gates.proofs.Growth.{Grows-refl, AddsConjunctions-refl}
use Rattle.gates.proofs.Meaning.{value_of-constant}
use Rattle.word_bits.specs.Number.{digit}
use Rattle.word_bits.specs.Words.{unsigned}
use Rattle.word_bits.proofs.Numbers.{carry_tells, unsigned-below}
use Rattle.word_bits.proofs.compare.ult.Goals as goal

pub returns-in_err-other-clause-grows : goal.returns-in_err-other-clause-grows
returns-in_err-other-clause-grows c = Grows-refl _

pub returns-in_err-other-clause-conjunctions : goal.returns-in_err-other-clause-conjunctions
returns-in_err-other-clause-conjunctions c = AddsConjunctions-refl _

pub returns-clause-meaning : goal.returns-clause-meaning
returns-clause-meaning c values v =
    let a = c.args.a.now in
    let b = c.args.b.now in
    let p = 2 ^ length a in
    let o = unsigned values c.in_ok-other.other in
    c.lit_not.ensures.value values
    ∙ ap not (c.in_ok-above.ensures.meaning values v ∙ ap (λ d. leb p (unsigned values a + o + digit d)) (value_of-constant v).0)
    ∙ carry_tells (unsigned values a) (unsigned values b) o p (unsigned-below values a)
    (subst (λ n. unsigned values b < 2 ^ n) (sym c.requires.widths) (unsigned-below values b))
    (subst (λ n. o + unsigned values b + 1 ≡ 2 ^ n) (sym c.requires.widths) (c.in_ok-other.ensures.number values))
