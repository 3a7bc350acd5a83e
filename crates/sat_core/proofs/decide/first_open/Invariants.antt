use Rattle.std.proofs.Common.{◌-◌, length, take}
use Rattle.sat_trail.specs.Trail.{literals}
use Rattle.sat_core.specs.Search.{AreAmong}
use Rattle.sat_core.proofs.decide.first_open.Given as goal

abbrev pub invariant-loop-literal : goal.invariant-loop-literal
invariant-loop-literal l = AreAmong (literals l.trail.entries) (take l.asked l.want)

abbrev pub decreases-loop-literal : goal.decreases-loop-literal
decreases-loop-literal l = length l.want - l.asked
