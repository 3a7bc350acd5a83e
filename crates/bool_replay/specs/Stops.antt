-- The verdict of a replay.
use Rattle.std.specs.Prelude.{ℕ, Option, Some, None}
use Rattle.bool_replay.specs.declared.verdict.Cause.{Cause}
use Rattle.bool_replay.specs.declared.verdict.Verdict.{Verdict}
use Rattle.bool_replay.specs.declared.verdict.Verdict.TheVariants.{Executed, Stops}

-- all states are a run, or a replay stops
abbrev pub verdict_of : ℕ → Option (ℕ × Cause) → Verdict
verdict_of n None = Executed n
verdict_of n (Some stop) = Stops stop.0 stop.1
