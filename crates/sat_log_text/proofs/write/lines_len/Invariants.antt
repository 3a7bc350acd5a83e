use Rattle.std.proofs.Common.{◌≡◌, length, min, take}
use Rattle.std.specs.List.{flat_map}
use Rattle.sat_log_text.specs.LogText.{line_text, clause_lines}
use Rattle.sat_log_text.proofs.write.lines_len.Given as goal

abbrev pub invariant-loop-i : goal.invariant-loop-i
invariant-loop-i l = l.total ≡ min (length (flat_map line_text (clause_lines 1 (take l.i l.lines)))) 18446744073709551615
