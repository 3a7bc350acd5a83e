use Rattle.sat_trail.specs.Trail.{literals, AreAllSet}
use Rattle.sat_trail.proofs.trail.Trail.first_unset.Given as goal

abbrev pub invariant-loop-var : goal.invariant-loop-var
invariant-loop-var l = AreAllSet l.var (literals l.self.entries)
