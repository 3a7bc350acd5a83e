use Rattle.std.proofs.Common.{◌≡◌, ◌≤◌, List, length}
use Rattle.sat_log.specs.Literal.{Literal}
use Rattle.sat_trail.specs.Trail.{bottom}
use Rattle.sat_trail.specs.Units.{AreDecided}
use Rattle.sat_analysis.specs.Analysis.{IsAnalysis, Awaits, AreNegationsOf}
use Rattle.sat_analysis.proofs.analysis.Analysis.trace_below.Given as goal

abbrev pub invariant-loop-i : goal.invariant-loop-i
invariant-loop-i l = record {
  inside : l.limit ≤ length l.trail.entries;
  state : IsAnalysis l.log (bottom l.limit l.trail.entries) l.self.state;
  awaited : Awaits l.self (bottom l.limit l.trail.entries);
  kept : (want : List Literal) → AreDecided want l.trail.entries → AreNegationsOf want l.fn.self.state.lits → AreNegationsOf want l.self.state.lits;
  size : length l.self.state.seen ≡ length l.fn.self.state.seen;
}

abbrev pub decreases-loop-i : goal.decreases-loop-i
decreases-loop-i l = l.limit
