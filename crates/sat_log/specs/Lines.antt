-- What a log keeps of its lines and its marks.
use Rattle.std.specs.Prelude.{◌≡◌, ◌≢◌, ℕ, List, []}
use Rattle.std.specs.List.{AllByRecursion}
use Rattle.sat_log.specs.Literal.{Literal}
use Rattle.sat_log.specs.Clause.{HasDistinctVariables}
use Rattle.sat_log.specs.Marked.{Marked, HasRoomForAll}
use Rattle.sat_log.specs.Accepted.{IsLog}
use Rattle.sat_log.specs.Checking.{last_variable}
use Rattle.sat_log.specs.declared.line.LineKind.TheVariants.{Original}
use Rattle.sat_log.specs.declared.line.LogLine.{LogLine}

-- Each line may come after those before it, the marks are clear, with room for the lines, and the
-- last variable is the greatest one of the lines.
pub record KeepsLog (lines : List LogLine) (marks : Marked) (last : ℕ) : Type 0 where
  pub log : IsLog lines
  pub clear : marks.set ≡ []
  pub room : HasRoomForAll marks lines
  pub greatest : last ≡ last_variable lines

-- the line of an original clause
abbrev pub original : List Literal → LogLine
original c = record { kind = Original; lits = c; hints = [] }

-- clauses that can be originals: each has a literal, and no variable twice
abbrev pub AreProper : List (List Literal) → Type 0
AreProper cs = AllByRecursion (λ c. (c ≢ []) × HasDistinctVariables c) cs
