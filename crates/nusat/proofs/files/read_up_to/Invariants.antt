use Rattle.std.proofs.Common.{◌≤◌, length}
use Rattle.nusat.proofs.files.read_up_to.Given as goal

-- what was read so far is within the limit
abbrev pub invariant-loop : goal.invariant-loop
invariant-loop g l = length l.bytes ≤ l.limit
