use Rattle.std.proofs.Common.{◌≡◌, ◌≤◌, max, length}
use Rattle.sat_link.specs.Contents.{HasDefinitions, GrowsTowards}
use Rattle.sat_link.proofs.kept.Kept.define_all.Given as goal

-- the first nodes have their clauses
abbrev pub invariant-loop-n : goal.invariant-loop-n
invariant-loop-n l = record {
  count : length l.self.nodes ≡ l.n;
  within : l.n ≤ length l.g;
  towards : GrowsTowards l.g l.fn.self l.self;
  variables : l.self.variables ≡ max l.fn.self.variables l.n;
  kept : HasDefinitions l.self;
}
