use Rattle.std.proofs.Common.{◌-◌, take, ap, ◌∙◌}
use Rattle.gates.specs.Valuation.{value_of}
use Rattle.gates.proofs.Growth.{Grows-refl, AddsConjunctions-refl}
use Rattle.word_bits.proofs.Shifts.{shifted_up}
use Rattle.word_bits.proofs.shift.shift_up.Goals as goal

pub returns-in_err-zeros-clause-grows : goal.returns-in_err-zeros-clause-grows
returns-in_err-zeros-clause-grows c = Grows-refl _

pub returns-in_err-zeros-clause-conjunctions : goal.returns-in_err-zeros-clause-conjunctions
returns-in_err-zeros-clause-conjunctions c = AddsConjunctions-refl _

pub returns-in_err-kept-clause-grows : goal.returns-in_err-kept-clause-grows
returns-in_err-kept-clause-grows c = Grows-refl _

pub returns-in_err-kept-clause-conjunctions : goal.returns-in_err-kept-clause-conjunctions
returns-in_err-kept-clause-conjunctions c = AddsConjunctions-refl _

pub returns-in_err-moved-clause-grows : goal.returns-in_err-moved-clause-grows
returns-in_err-moved-clause-grows c = Grows-refl _

pub returns-in_err-moved-clause-conjunctions : goal.returns-in_err-moved-clause-conjunctions
returns-in_err-moved-clause-conjunctions c = AddsConjunctions-refl _

pub returns-clause-shifted : goal.returns-clause-shifted
returns-clause-shifted c values v =
    shifted_up v c.args.a.now c.in_ok-zeros.zeros c.in_ok-kept.kept c.in_ok-moved.moved c.in_ok-shifted.shifted (value_of values c.args.bit) c.args.distance c.requires.within
    c.in_ok-zeros.ensures (c.in_ok-kept.ensures ∙ ap (λ n. take (n - c.args.distance) c.args.a.now) c.len.ensures.count) c.in_ok-moved.ensures.literals (c.in_ok-shifted.ensures.number values v)
