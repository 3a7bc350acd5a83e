use Rattle.std.proofs.Common.{◌≡◌, ◌+◌, drop}
use Rattle.sat_log_text.specs.Reading.{piece_len}
use Rattle.sat_log_text.proofs.words.piece_len.Given as goal

abbrev pub invariant-loop-i : goal.invariant-loop-i
invariant-loop-i l = l.i + piece_len l.separator (drop l.i l.bytes) ≡ piece_len l.separator l.bytes
