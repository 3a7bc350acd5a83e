use Rattle.std.proofs.Common.{arith, ap, ◌^◌}
use Rattle.gates.proofs.Growth.{Grows-refl, AddsConjunctions-refl}
use Rattle.gates.proofs.Meaning.{value_of-constant}
use Rattle.word_bits.specs.Number.{digit}
use Rattle.word_bits.proofs.sum.subtract.Goals as goal

pub returns-in_err-other-clause-grows : goal.returns-in_err-other-clause-grows
returns-in_err-other-clause-grows c = Grows-refl _

pub returns-in_err-other-clause-conjunctions : goal.returns-in_err-other-clause-conjunctions
returns-in_err-other-clause-conjunctions c = AddsConjunctions-refl _

pub returns-clause-difference : goal.returns-clause-difference
returns-clause-difference c values v =
    omega (arith, c.in_ok-difference.ensures.sum values v, c.in_ok-other.ensures.number values, ap digit (value_of-constant v).0, ap (λ n. 2 ^ n) c.requires.widths)
