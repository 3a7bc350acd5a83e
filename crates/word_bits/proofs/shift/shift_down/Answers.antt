use Rattle.gates.specs.Valuation.{value_of}
use Rattle.gates.proofs.Growth.{Grows-refl, AddsConjunctions-refl}
use Rattle.word_bits.proofs.Shifts.{shifted_down}
use Rattle.word_bits.proofs.shift.shift_down.Goals as goal

pub returns-in_err-filled-clause-grows : goal.returns-in_err-filled-clause-grows
returns-in_err-filled-clause-grows c = Grows-refl _

pub returns-in_err-filled-clause-conjunctions : goal.returns-in_err-filled-clause-conjunctions
returns-in_err-filled-clause-conjunctions c = AddsConjunctions-refl _

pub returns-in_err-kept-clause-grows : goal.returns-in_err-kept-clause-grows
returns-in_err-kept-clause-grows c = Grows-refl _

pub returns-in_err-kept-clause-conjunctions : goal.returns-in_err-kept-clause-conjunctions
returns-in_err-kept-clause-conjunctions c = AddsConjunctions-refl _

pub returns-in_err-moved-clause-grows : goal.returns-in_err-moved-clause-grows
returns-in_err-moved-clause-grows c = Grows-refl _

pub returns-in_err-moved-clause-conjunctions : goal.returns-in_err-moved-clause-conjunctions
returns-in_err-moved-clause-conjunctions c = AddsConjunctions-refl _

pub returns-clause-shifted : goal.returns-clause-shifted
returns-clause-shifted c values v =
    shifted_down values c.args.a.now c.in_ok-filled.filled c.in_ok-kept.kept c.in_ok-moved.moved c.in_ok-shifted.shifted c.args.fill (value_of values c.args.bit) c.args.distance c.requires.within
    c.in_ok-filled.ensures c.in_ok-kept.ensures c.in_ok-moved.ensures.literals (c.in_ok-shifted.ensures.bits values v)
