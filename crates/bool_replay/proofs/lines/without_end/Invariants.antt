use Rattle.std.proofs.Common.{◌≡◌, length}
use Rattle.bool_replay.specs.TraceTexts.{without_end}
use Rattle.bool_replay.proofs.lines.without_end.Given as goal

-- what is left comes to the same
abbrev pub invariant-loop-rest : goal.invariant-loop-rest
invariant-loop-rest l = without_end l.rest ≡ without_end l.line

abbrev pub decreases-loop-rest : goal.decreases-loop-rest
decreases-loop-rest l = length l.rest
