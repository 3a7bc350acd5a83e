use Rattle.std.proofs.Common.{◌≡◌, ◌-◌, List, length}
use Rattle.sat_log.specs.Literal.{Literal}
use Rattle.sat_trail.specs.Trail.{top}
use Rattle.sat_core.specs.Search.{AskedFirst}
use Rattle.sat_core.proofs.search.Search.attach.Given as goal

abbrev pub invariant-loop-self : goal.invariant-loop-self
invariant-loop-self l = record {
  level : top l.self.entries ≡ 0;
  asked : (want : List Literal) → AskedFirst want l.fn.self.entries → AskedFirst want l.self.entries;
  log : l.self.log ≡ l.fn.self.log;
  variables : l.self.variables ≡ l.fn.self.variables;
}

abbrev pub decreases-loop-self : goal.decreases-loop-self
decreases-loop-self l = length l.self.log - l.self.attached
