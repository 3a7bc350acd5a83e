use Rattle.std.proofs.Common.{length, sym}
use Rattle.std.proofs.lemmas.Bool.{ltb-true}
use Rattle.sat_trail.proofs.Literals.{stands_at}
use Rattle.sat_core.proofs.decide.first_open.Goals as goal

pub returns-then-not-is_true-clause-wanted : goal.returns-then-not-is_true-clause-wanted
returns-then-not-is_true-clause-wanted c =
    let here = c.in-Some.ensures.lookup in
    stands_at c.args.want.now c.loop-literal.asked c.in-Some.field-0.now (ltb-true c.loop-literal.asked (length c.args.want.now) (sym here.0)) here.1
