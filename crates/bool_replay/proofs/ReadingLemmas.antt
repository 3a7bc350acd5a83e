-- One line more of a trace's text.
use Rattle.std.proofs.Common.{◌≡◌, ◌+◌, ℕ, List, [], ◌∷◌, ap, sym, ◌∙◌}
use Rattle.std.specs.Prelude.{Option, Some, ◌==◌, length, true}
use Rattle.std.specs.Option.{option_and_then}
use Rattle.text_lines.specs.Lines.{lines_of}
use Rattle.text_lines.proofs.Cutting.{no_lines}
use Rattle.bool_replay.specs.TraceTexts.{Progress, add_lines, content_from, trimmed, unless_empty}
use Rattle.bool_replay.proofs.SectionLemmas.{line_by_line}

-- the lines behind a line, where the sections after it are known
lines_behind : (names : List (List ℕ)) (n : ℕ) (line : List ℕ) (others : List (List ℕ)) (before after : Progress) (all : Option Progress) → add_lines names (content_from n (line ∷ others)) before ≡ all → Some after ≡ add_lines names (unless_empty n (trimmed line) []) before → add_lines names (content_from (n + 1) others) after ≡ all
lines_behind names n line others before after all e h =
    ap (option_and_then (add_lines names (content_from (n + 1) others))) h ∙ (sym (line_by_line names n (trimmed line) (content_from (n + 1) others) before) ∙ e)

-- what holds after one line more
pub line_more : (names : List (List ℕ)) (n : ℕ) (bytes line rest : List ℕ) (before after : Progress) (all : Option Progress) → lines_of bytes ≡ line ∷ lines_of rest → add_lines names (content_from n (lines_of bytes)) before ≡ all → Some after ≡ add_lines names (unless_empty n (trimmed line) []) before → add_lines names (content_from (n + 1) (lines_of rest)) after ≡ all
line_more names n bytes line rest before after all cut same added =
    lines_behind names n line (lines_of rest) before after all (ap (λ ls. add_lines names (content_from n ls) before) (sym cut) ∙ same) added

-- what holds after the last line
pub lines_over : (names : List (List ℕ)) (n : ℕ) (bytes : List ℕ) (before : Progress) (all : Option Progress) → (length bytes == 0) ≡ true → add_lines names (content_from n (lines_of bytes)) before ≡ all → Some before ≡ all
lines_over names n bytes before all empty same = ap (λ ls. add_lines names (content_from n ls) before) (sym (no_lines bytes empty)) ∙ same
