use Rattle.std.proofs.Common.{◌≡◌, ◌^◌, length}
use Rattle.sat_log.specs.Accepted.{IsLog}
use Rattle.sat_log.specs.Checking.{AreUpTo}
use Rattle.sat_core.specs.Gained.{gained, conflicts}
use Rattle.sat_core.specs.Verdicts.{IsWithin}
use Rattle.sat_core.specs.Search.{AskedFirst, MayStep}
use Rattle.sat_core.proofs.Runs.{HasLearned, left}
use Rattle.sat_core.proofs.search.Search.run.Given as goal

abbrev pub invariant-loop-budget : goal.invariant-loop-budget
invariant-loop-budget l = record {
  gains : HasLearned l.fn.self.log l.self.log;
  count : l.learned ≡ conflicts (gained l.fn.self.log l.self.log);
  within : IsWithin l.budget l.learned;
  asked : AskedFirst l.want l.self.entries;
  is_log : IsLog l.self.log;
  exist : AreUpTo l.self.variables l.self.log;
  variables : l.self.variables ≡ l.fn.self.variables;
  may : MayStep l.want l.asked l.self;
}

abbrev pub decreases-loop-budget : goal.decreases-loop-budget
decreases-loop-budget l =
    left (3 ^ l.fn.self.variables) (conflicts (gained l.fn.self.log l.self.log)) l.fn.self.variables (length l.self.entries)
