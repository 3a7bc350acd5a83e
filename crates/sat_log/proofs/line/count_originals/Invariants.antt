use Rattle.std.proofs.Common.{◌≡◌, ◌+◌, ◌≤◌, drop, length}
use Rattle.sat_log.specs.Accepted.{originals}
use Rattle.sat_log.proofs.line.count_originals.Given as goal

abbrev pub invariant-loop-line : goal.invariant-loop-line
invariant-loop-line l = record {
  rest : l.count + length (originals (drop l.line-index l.lines)) ≡ length (originals l.lines);
  small : l.count ≤ l.line-index;
}
