use Rattle.std.proofs.Common.{◌≡◌, ◌≤◌, length}
use Rattle.sat_trail.specs.Trail.{bottom}
use Rattle.sat_analysis.specs.Analysis.{marked_at, Awaits, IsAnalysis, IsAsserting}
use Rattle.sat_analysis.proofs.analysis.Analysis.analyze.Given as goal

abbrev pub invariant-loop-i : goal.invariant-loop-i
invariant-loop-i l = record {
  inside : l.limit ≤ length l.trail.entries;
  awaited : Awaits l.self (bottom l.limit l.trail.entries);
  state : IsAnalysis l.log (bottom l.limit l.trail.entries) l.self.state;
  counted : l.pending ≡ marked_at l.level l.self.state.seen (bottom l.limit l.trail.entries);
  asserting : IsAsserting l.level l.trail.entries l.pending l.self.state.lits;
  size : length l.self.state.seen ≡ length l.fn.self.state.seen;
}

abbrev pub decreases-loop-i : goal.decreases-loop-i
decreases-loop-i l = l.limit
