use Rattle.std.proofs.Common.{◌≡◌, ◌-◌}
use Rattle.sat_trail.specs.Trail.{places}
use Rattle.sat_trail.specs.Units.{IsTrail, AddsImplied}
use Rattle.sat_propagation.specs.Watching.{IsReady, KeepsLines}
use Rattle.sat_propagation.proofs.propagation.Propagation.propagate.Given as goal

abbrev pub invariant-loop-self : goal.invariant-loop-self
invariant-loop-self l = record {
  ready : IsReady l.log l.trail l.self;
  trail : IsTrail l.log l.trail.entries;
  implied : AddsImplied l.fn.trail.entries l.trail.entries;
  variables : l.trail.variables ≡ l.fn.trail.variables;
  lines : KeepsLines l.fn.self l.self;
}

abbrev pub decreases-loop-self : goal.decreases-loop-self
decreases-loop-self l = places l.trail.variables - l.self.looked
