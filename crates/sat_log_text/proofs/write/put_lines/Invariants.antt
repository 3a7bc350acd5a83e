use Rattle.std.proofs.Common.{take}
use Rattle.std.specs.List.{flat_map}
use Rattle.outside.proofs.WriteLemmas.{HasWritten}
use Rattle.sat_log_text.specs.LogText.{line_text, clause_lines}
use Rattle.sat_log_text.proofs.write.put_lines.Given as goal

-- the lines so far are written
abbrev pub invariant-loop-i : goal.invariant-loop-i
invariant-loop-i g l = HasWritten (flat_map line_text (clause_lines 1 (take l.i l.lines))) (g.S.Sink.told l.initial.out) (g.S.Sink.told l.out)
