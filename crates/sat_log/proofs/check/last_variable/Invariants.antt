use Rattle.std.proofs.Common.{◌≡◌, max, take, drop}
use Rattle.sat_log.specs.Clause.{AreLiterals}
use Rattle.sat_log.specs.Checking.{last_of}
use Rattle.sat_log.proofs.check.last_variable.Given as goal

-- the greatest variable so far, with those of the other literals
abbrev pub invariant-loop-literal : goal.invariant-loop-literal
invariant-loop-literal l = record {
  last : max l.last (last_of (drop l.literal-index l.literals)) ≡ last_of l.literals;
  literals : AreLiterals (take l.literal-index l.literals);
}
