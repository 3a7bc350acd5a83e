use Rattle.std.proofs.Common.{◌-◌, ◌≤◌, length, drop}
use Rattle.shell_lang.specs.Grouped.{GoesOn}
use Rattle.shell_lang.proofs.split.split_line.Given as goal

-- what the rest of the line gives is what the line gives
abbrev pub invariant-loop-builder : goal.invariant-loop-builder
invariant-loop-builder l = (l.at ≤ length l.bytes) × GoesOn l.line l.builder (drop l.at l.bytes)

abbrev pub decreases-loop-builder : goal.decreases-loop-builder
decreases-loop-builder l = length l.bytes - l.at
