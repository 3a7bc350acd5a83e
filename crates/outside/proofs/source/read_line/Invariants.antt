use Rattle.std.proofs.Common.{◌≡◌, ◌-◌, ◌≤◌, length}
use Rattle.std.specs.Io.KnownBytes.{prepend_known}
use Rattle.outside.specs.Lines.{IsOneLine}
use Rattle.outside.proofs.source.read_line.Given as goal

-- what was read so far is a front of a line
abbrev pub invariant-loop-next : goal.invariant-loop-next
invariant-loop-next g l =
    record {
      one_line : IsOneLine l.line;
      within : length l.line ≤ l.limit;
      taken : (g.S.Source.told l.initial.from).left ≡ prepend_known l.line (g.S.Source.told l.from).left;
      quiet : (g.S.Source.told l.from).faults ≡ (g.S.Source.told l.initial.from).faults;
    }

abbrev pub decreases-loop-next : goal.decreases-loop-next
decreases-loop-next g l = l.limit - length l.line
