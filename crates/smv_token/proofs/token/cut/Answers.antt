use Rattle.std.proofs.Common.{sym, arith}
use Rattle.smv_token.proofs.Scanning.{front_length, front_of}
use Rattle.smv_token.proofs.token.cut.Goals as goal

pub returns-then-name-le255-clause-front : goal.returns-then-name-le255-clause-front
returns-then-name-le255-clause-front c = sym (front_of 255 c.args.name.now (omega (arith, c.if-name-le255.true)))

pub slice_bounds-result-end : goal.slice_bounds-result-end
slice_bounds-result-end c = sym (front_length 255 c.args.name.now (omega (arith, c.if-name-le255.false)))

pub returns-clause-short : goal.returns-clause-short
returns-clause-short c = let e = front_length 255 c.args.name.now (omega (arith, c.if-name-le255.false)) in omega (arith, e)
