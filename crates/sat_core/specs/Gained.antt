-- The lines that a log gains in a search.
use Rattle.std.specs.Prelude.{◌≡◌, ◌≢◌, ◌<◌, ℕ, Some, List, [], ◌∷◌, ◌++◌, length, drop}
use Rattle.std.specs.List.{AllByRecursion}
use Rattle.sat_log.specs.Literal.{Literal, negated}
use Rattle.sat_log.specs.Clause.{Among}
use Rattle.sat_log.specs.Accepted.{line_at}
use Rattle.sat_log.specs.Clauses.{clauses}
use Rattle.sat_log.specs.Learned.{IsNeeded, IsDrawn, conflict_clauses}
use Rattle.sat_log.specs.declared.line.LineKind.TheVariants.{Original, Conflict, Final}
use Rattle.sat_log.specs.declared.line.LogLine.{LogLine}

-- what stands behind the old lines
abbrev pub gained : List LogLine → List LogLine → List LogLine
gained old new = drop (length old) new

-- the old lines are the first of the new ones
abbrev pub IsLonger : List LogLine → List LogLine → Type 0
IsLonger old new = new ≡ old ++ gained old new

-- how many of the lines are conflict lines
abbrev pub conflicts : List LogLine → ℕ
conflicts lines = length (conflict_clauses lines)

-- no line is an original
abbrev pub HasNoOriginal : List LogLine → Type 0
HasNoOriginal lines = AllByRecursion (λ line. line.kind ≢ Original) lines

-- no line is final
abbrev pub HasNoFinal : List LogLine → Type 0
HasNoFinal lines = AllByRecursion (λ line. line.kind ≢ Final) lines

-- A conflict line is needed and drawn over the lines before it; of others nothing is asked.
pub record IsNeededAndDrawn (before : List LogLine) (line : LogLine) : Type 0 where
  pub needed : line.kind ≡ Conflict → IsNeeded (clauses before) line.lits
  pub drawn : line.kind ≡ Conflict → IsDrawn before line

-- each of the lines is so over those before it
abbrev pub AreLearned : List LogLine → List LogLine → Type 0
AreLearned before [] = Unit {0}
AreLearned before (line ∷ lines) =
    IsNeededAndDrawn before line × AreLearned (before ++ line ∷ []) lines

-- The line of this id is the last one. It was gained, is final, and its literals are negations of
-- some that are wanted. No other line that was gained is final.
pub record IsRefusal (old new : List LogLine) (want : List Literal) (id : ℕ) : Type 0 where
  pub line : LogLine
  pub stands : line_at new id ≡ Some line
  pub last : id ≡ length new
  pub is_gained : length old < id
  pub final : line.kind ≡ Final
  pub literals : AllByRecursion (λ l. Among want (negated l)) line.lits
  pub others : List LogLine
  pub gained_are : gained old new ≡ others ++ line ∷ []
  pub no_other : HasNoFinal others
