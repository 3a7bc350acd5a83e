use Rattle.std.proofs.Common.{length}
use Rattle.sat_trail.proofs.order.Order.prefer.Given as goal

abbrev pub decreases-loop-var-2 : goal.decreases-loop-var-2
decreases-loop-var-2 l = length l.self.met.items
