-- Which truth values answer a question, and where none do.
use Rattle.std.specs.Prelude.{◌≡◌, ℕ, Bool, List, length}
use Rattle.sat_log.specs.Literal.{Literal}
use Rattle.sat_log.specs.Clauses.{Satisfies}
use Rattle.sat_log.specs.Accepted.{originals}
use Rattle.sat_log.specs.declared.line.LogLine.{LogLine}
pub use Rattle.sat_trail.specs.Assignment.{assignment, AreTrue}

-- one truth value for each variable, which make the originals and all that is wanted true
pub record IsSolution (variables : ℕ) (log : List LogLine) (want : List Literal)
    (bits : List Bool) : Type 0 where
  pub one_each : length bits ≡ variables
  pub originals_true : Satisfies (assignment bits) (originals log)
  pub wanted_true : AreTrue (assignment bits) want

-- no truth values make the originals and all that is wanted true
abbrev pub HasNoSolution : List LogLine → List Literal → Type 0
HasNoSolution log want = (v : ℕ → Bool) → Satisfies v (originals log) → ¬ AreTrue v want
