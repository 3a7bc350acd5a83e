-- What the sections that the reader keeps stand for.
use Rattle.std.specs.Prelude.{ℕ, ◌+◌, ◌<◌, List, length, map, vec_len}
use Rattle.bool_replay.specs.declared.sections.Kept.{Kept}
use Rattle.bool_replay.specs.declared.sections.Reading.{Reading}
use Rattle.bool_replay.specs.declared.sections.Reading.TheVariants as reading
use Rattle.bool_replay.specs.TraceTexts.{Section, Progress, begun, within, IsTraceText}

-- a section
abbrev pub section_of : Kept → Section
section_of s = record { line = s.line; stated = map (λ e. (e.0.items, e.1)) s.stated.entries }

-- how far sections were read
abbrev pub progress_of : Reading → Progress
progress_of reading.Begun = begun
progress_of (reading.Within done last) = within (map section_of done.items) (section_of last)

-- how many sections were read
abbrev pub sections_in : Reading → ℕ
sections_in reading.Begun = 0
sections_in (reading.Within done last) = vec_len done + 1

-- the sections are those of the text, and at least one
abbrev pub AreRead : List (List ℕ) → List ℕ → List Kept → Type 0
AreRead names text kept = IsTraceText names text (map section_of kept) × (0 < length kept)
