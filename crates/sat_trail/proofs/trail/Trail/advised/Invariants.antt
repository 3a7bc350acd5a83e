use Rattle.std.proofs.Common.{◌≡◌}
use Rattle.sat_trail.proofs.trail.Trail.advised.Given as goal

abbrev pub invariant-loop : goal.invariant-loop
invariant-loop l = l.self ≡ l.fn.self
