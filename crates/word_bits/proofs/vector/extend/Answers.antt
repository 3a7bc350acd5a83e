use Rattle.word_bits.proofs.Signs.{extended}
use Rattle.word_bits.proofs.vector.extend.Goals as goal

pub returns-clause-number : goal.returns-clause-number
returns-clause-number c nodes values v =
    (extended values c.args.a.now c.in_ok-above.above c.in_ok-wide.wide _ c.filling.result c.args.copy_sign c.requires.bits c.in_ok-above.ensures c.in_ok-wide.ensures.literals (c.filling.ensures.value nodes values v)).0

pub returns-clause-signed : goal.returns-clause-signed
returns-clause-signed c nodes values v =
    (extended values c.args.a.now c.in_ok-above.above c.in_ok-wide.wide _ c.filling.result c.args.copy_sign c.requires.bits c.in_ok-above.ensures c.in_ok-wide.ensures.literals (c.filling.ensures.value nodes values v)).1
