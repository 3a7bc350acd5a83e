use Rattle.std.proofs.Common.{◌≡◌, ◌+◌, ◌-◌, ◌≤◌, length, drop}
use Rattle.std.specs.List.{prefix_len}
use Rattle.shell_lang.specs.Runs.{is_in}
use Rattle.shell_lang.proofs.run.Run.len.Given as goal

-- the bytes so far and the run that begins after them are the run
abbrev pub invariant-loop-len : goal.invariant-loop-len
invariant-loop-len l =
    (l.len ≤ length l.bytes) × (l.len + prefix_len (is_in l.self) (drop l.len l.bytes) ≡ prefix_len (is_in l.self) l.bytes)

abbrev pub decreases-loop-len : goal.decreases-loop-len
decreases-loop-len l = length l.bytes - l.len
