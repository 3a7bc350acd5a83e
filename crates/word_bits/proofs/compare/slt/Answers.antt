use Rattle.std.proofs.Common.{◌∙◌, ◌-◌, ap, get_or}
use Rattle.gates.specs.Literal.{always}
use Rattle.gates.proofs.Growth.{Grows-refl, AddsConjunctions-refl}
use Rattle.word_bits.proofs.Signs.{signed_order}
use Rattle.word_bits.proofs.compare.slt.Goals as goal

pub returns-in_err-first-clause-grows : goal.returns-in_err-first-clause-grows
returns-in_err-first-clause-grows c = Grows-refl _

pub returns-in_err-first-clause-conjunctions : goal.returns-in_err-first-clause-conjunctions
returns-in_err-first-clause-conjunctions c = AddsConjunctions-refl _

pub returns-in_err-second-clause-grows : goal.returns-in_err-second-clause-grows
returns-in_err-second-clause-grows c = Grows-refl _

pub returns-in_err-second-clause-conjunctions : goal.returns-in_err-second-clause-conjunctions
returns-in_err-second-clause-conjunctions c = AddsConjunctions-refl _

pub returns-clause-meaning : goal.returns-clause-meaning
returns-clause-meaning c values v =
    c.in_ok-below.ensures.meaning values v
    ∙ signed_order values c.args.a.now c.args.b.now c.in_ok-first.first c.in_ok-second.second c.get-top.result c.get-other.result c.requires.bits c.requires.widths
    (c.get-top.ensures ∙ ap (λ n. get_or c.args.a.now (n - 1) always) c.len.ensures.count) (c.get-other.ensures ∙ ap (λ n. get_or c.args.b.now (n - 1) always) c.len-2.ensures.count)
    c.in_ok-first.ensures.literals c.in_ok-second.ensures.literals
