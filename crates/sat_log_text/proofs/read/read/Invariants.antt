use Rattle.std.proofs.Common.{◌≡◌, ◌-◌, length, drop, map}
use Rattle.text_lines.specs.Lines.{lines_of}
use Rattle.sat_log_text.specs.Page.{words, page}
use Rattle.sat_log_text.specs.Reading.{read_page, read_rest}
use Rattle.sat_log_text.proofs.read.read.Given as goal

abbrev pub invariant-loop-at : goal.invariant-loop-at
invariant-loop-at l = read_page (page l.text) ≡ read_rest l.log (map words (lines_of (drop l.at l.text)))

abbrev pub decreases-loop-at : goal.decreases-loop-at
decreases-loop-at l = length l.text - l.at
