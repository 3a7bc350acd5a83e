use Rattle.std.proofs.Common.{◌≡◌, ◌+◌, ◌≤◌, length}
use Rattle.text_lines.specs.Lines.{lines_of}
use Rattle.bool_replay.specs.TraceTexts.{add_lines, begun, content, content_from}
use Rattle.bool_replay.specs.SectionViews.{progress_of, sections_in}
use Rattle.bool_replay.proofs.sections.read.Given as goal

-- the lines that are left go on from where the reading is
abbrev pub invariant-loop-rest : goal.invariant-loop-rest
invariant-loop-rest l =
    record {
      count : sections_in l.reading ≤ l.number;
      fits : l.number + length l.rest ≤ length l.text;
      same : add_lines l.names (content_from (l.number + 1) (lines_of l.rest)) (progress_of l.reading) ≡ add_lines l.names (content l.text) begun;
    }

abbrev pub decreases-loop-rest : goal.decreases-loop-rest
decreases-loop-rest l = length l.rest
