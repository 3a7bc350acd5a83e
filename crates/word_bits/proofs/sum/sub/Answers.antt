use Rattle.std.proofs.Common.{◌+◌, ◌-◌, ◌^◌, ◌<◌, length, arith, subst, sym}
use Rattle.gates.specs.Valuation.{value_of}
use Rattle.word_bits.specs.Number.{digit}
use Rattle.word_bits.specs.Words.{unsigned}
use Rattle.word_bits.proofs.Numbers.{remainder_from_carry, unsigned-below}
use Rattle.word_bits.proofs.sum.sub.Goals as goal

pub returns-clause-difference : goal.returns-clause-difference
returns-clause-difference c values v =
    let p = 2 ^ length c.args.a.now in
    let s = c.in_ok-difference.difference in
    let b = unsigned values c.args.b.now in
    let small : unsigned values s < p = subst (λ n. unsigned values s < 2 ^ n) c.in_ok-difference.ensures.width (unsigned-below values s) in
    let b_small : b < p = subst (λ n. b < 2 ^ n) (sym c.requires.widths) (unsigned-below values c.args.b.now) in
    remainder_from_carry (unsigned values s) p (digit (value_of values c.in_ok-difference._carry)) (unsigned values c.args.a.now + (p - b)) small
    (omega (arith, c.in_ok-difference.ensures.difference values v, b_small))
