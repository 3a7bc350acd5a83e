use Rattle.std.proofs.Common.{rules, ◌≡◌, ◌+◌, ◌-◌, length, take, drop, ap, ◌∙◌, arith}
use Rattle.std.proofs.lemmas.List.{length-take-le, length-drop}
use Rattle.word_bits.specs.Words.{unsigned}
use Rattle.word_bits.proofs.Products.{unsigned-cut}
use Rattle.word_bits.proofs.vector.select.Goals as goal

pub returns-clause-number : goal.returns-clause-number
returns-clause-number c values =
    let n = c.args.high + 1 - c.args.low in
    let literals : c.from_vec.result ≡ take n (drop c.args.low c.args.a.now) = search rules in
    ap (unsigned values) literals ∙ unsigned-cut values c.args.a.now c.args.low n (omega arith)

pub returns-clause-width : goal.returns-clause-width
returns-clause-width c =
    let n = c.args.high + 1 - c.args.low in
    let literals : c.from_vec.result ≡ take n (drop c.args.low c.args.a.now) = search rules in
    ap length literals ∙ length-take-le n (drop c.args.low c.args.a.now) (omega (arith, length-drop c.args.low c.args.a.now))
