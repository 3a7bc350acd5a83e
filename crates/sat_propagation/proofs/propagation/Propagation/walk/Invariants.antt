use Rattle.std.proofs.Common.{◌≡◌, List, length}
use Rattle.sat_watch.specs.Watched.{watchers}
use Rattle.sat_trail.specs.Units.{IsTrail, AddsImplied}
use Rattle.sat_trail.specs.declared.trail.Entry.{Entry}
use Rattle.sat_propagation.specs.Watching.{AreStanding, KeepsRule, KeepsLines, IsPart}
use Rattle.sat_propagation.proofs.Walks.{Walked, rest_behind}
use Rattle.sat_propagation.proofs.propagation.Propagation.walk.Given as goal

abbrev pub invariant-loop-watcher : goal.invariant-loop-watcher
invariant-loop-watcher l = record {
  walked : Walked l.self l.trail.entries l.literal l.before;
  standing : AreStanding l.log l.self;
  rule : (part : List Entry) → IsPart part l.fn.trail.entries → KeepsRule part l.fn.trail.entries l.fn.self → KeepsRule part l.trail.entries l.self;
  trail : IsTrail l.log l.trail.entries;
  implied : AddsImplied l.fn.trail.entries l.trail.entries;
  variables : l.trail.variables ≡ l.fn.trail.variables;
  lines : KeepsLines l.fn.self l.self;
  looked : l.self.looked ≡ l.fn.self.looked;
}

abbrev pub decreases-loop-watcher : goal.decreases-loop-watcher
decreases-loop-watcher l = length (rest_behind (watchers l.self.watched l.literal) l.before)
