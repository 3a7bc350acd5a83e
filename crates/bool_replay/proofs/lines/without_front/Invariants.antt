use Rattle.std.proofs.Common.{◌≡◌, length}
use Rattle.bool_replay.specs.TraceTexts.{without_front}
use Rattle.bool_replay.proofs.lines.without_front.Given as goal

-- what is left comes to the same
abbrev pub invariant-loop-rest : goal.invariant-loop-rest
invariant-loop-rest l = without_front l.rest ≡ without_front l.line

abbrev pub decreases-loop-rest : goal.decreases-loop-rest
decreases-loop-rest l = length l.rest
