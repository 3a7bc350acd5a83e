use Rattle.std.proofs.Common.{◌≡◌, ◌-◌, ◌≤◌, length, take}
use Rattle.std.specs.Io.KnownBytes.{append_known}
use Rattle.outside.proofs.sink.put_all.Given as goal

-- what is written so far is a front of the bytes
abbrev pub invariant-loop-at : goal.invariant-loop-at
invariant-loop-at g l =
    (l.at ≤ length l.bytes)
    × ((g.S.Sink.told l.out).written ≡ append_known (g.S.Sink.told l.initial.out).written (take l.at l.bytes))
    × ((g.S.Sink.told l.out).faults ≡ (g.S.Sink.told l.initial.out).faults)

abbrev pub decreases-loop-at : goal.decreases-loop-at
decreases-loop-at g l = length l.bytes - l.at
