use Rattle.std.proofs.Common.{arith}
use Rattle.sat_trail.proofs.Literals.{stands_at}
use Rattle.sat_propagation.proofs.propagation.find.Goals as goal

pub returns-then-may_watch-clause-stands : goal.returns-then-may_watch-clause-stands
returns-then-may_watch-clause-stands c =
    stands_at c.args.clause.now c.loop-literal.literal-index c.literal-item.result (omega arith) c.literal-item.is
