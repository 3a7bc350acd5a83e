use Rattle.std.proofs.Common.{rules, ◌≡◌, ◌++◌, ap, ◌∙◌}
use Rattle.word_bits.specs.Words.{unsigned}
use Rattle.word_bits.proofs.Numbers.{unsigned-append}
use Rattle.word_bits.proofs.vector.concat.Goals as goal

pub returns-clause-number : goal.returns-clause-number
returns-clause-number c values =
    let literals : c.from_vec.result ≡ c.args.low.now ++ c.args.high.now = search rules in
    ap (unsigned values) literals ∙ unsigned-append values c.args.low.now c.args.high.now
