use Rattle.std.proofs.Common.{◌+◌, ◌^◌, ◌<◌, length, arith, ap, subst}
use Rattle.gates.specs.Valuation.{value_of}
use Rattle.gates.proofs.Meaning.{value_of-constant}
use Rattle.word_bits.specs.Number.{digit}
use Rattle.word_bits.specs.Words.{unsigned}
use Rattle.word_bits.proofs.Numbers.{remainder_from_carry, unsigned-below}
use Rattle.word_bits.proofs.sum.add.Goals as goal

pub returns-clause-sum : goal.returns-clause-sum
returns-clause-sum c values v =
    let p = 2 ^ length c.args.a.now in
    let s = c.in_ok-sum.sum in
    let small : unsigned values s < p = subst (λ n. unsigned values s < 2 ^ n) c.in_ok-sum.ensures.width (unsigned-below values s) in
    let zero = ap digit (value_of-constant v).1 in
    remainder_from_carry (unsigned values s) p (digit (value_of values c.in_ok-sum._carry)) (unsigned values c.args.a.now + unsigned values c.args.b.now) small
    (omega (arith, c.in_ok-sum.ensures.sum values v, zero))
