use Rattle.std.proofs.Common.{◌≡◌, length}
use Rattle.sat_trail.specs.Trail.{literals}
use Rattle.sat_trail.proofs.Trails.{Tells}
use Rattle.sat_trail.proofs.trail.Trail.values.Given as goal

abbrev pub invariant-loop-var : goal.invariant-loop-var
invariant-loop-var l = record {
  size : length l.values.items ≡ l.var;
  tells : Tells l.var (literals l.self.entries) l.values.items;
}
