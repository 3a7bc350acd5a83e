use Rattle.std.proofs.Common.{◌≡◌, ◌+◌, length}
use Rattle.sat_trail.specs.Trail.{before}
use Rattle.sat_trail.proofs.trail.Trail.backjump.Given as goal

abbrev pub invariant-loop-self : goal.invariant-loop-self
invariant-loop-self l = record {
  entries : before (l.level + 1) l.self.entries ≡ before (l.level + 1) l.fn.self.entries;
  variables : l.self.variables ≡ l.fn.self.variables;
}

abbrev pub decreases-loop-self : goal.decreases-loop-self
decreases-loop-self l = length l.self.entries
