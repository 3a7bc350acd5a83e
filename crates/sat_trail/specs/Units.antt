-- Unit clauses: what makes a literal true, and where none is missed.
use Rattle.std.specs.Prelude.{◌≡◌, ◌≢◌, ◌⊎◌, ◌+◌, ◌≤◌, ℕ, Option, None, Some, IsSome, List, [], ◌∷◌, ◌++◌}
use Rattle.std.specs.List.{AllByRecursion}
use Rattle.sat_log.specs.Literal.{Literal, negated}
use Rattle.sat_log.specs.Clause.{Among, IsFalsified}
use Rattle.sat_log.specs.Accepted.{clause_at}
use Rattle.sat_log.specs.Clauses.{clauses}
use Rattle.sat_log.specs.Learned.{IsTrueUnder, HasTwoUnset}
use Rattle.sat_log.specs.declared.line.LogLine.{LogLine}
use Rattle.sat_trail.specs.Trail.{literals, top, before}
use Rattle.sat_trail.specs.declared.trail.Entry.{Entry}

-- The literal is one of the clause, and where these literals are set all others are false.
pub record Implies (set c : List Literal) (l : Literal) : Type 0 where
  pub stands : Among c l
  pub others_false : (k : Literal) → Among c k → k ≢ l → Among set (negated k)

-- the clause of this id implies the literal
pub record IsReason (log : List LogLine) (set : List Literal) (id : ℕ) (l : Literal) : Type 0 where
  pub clause : List Literal
  pub named : clause_at log id ≡ Some clause
  pub implies : Implies set clause l

-- all literals of the clause of this id are false
pub record IsConflict (log : List LogLine) (set : List Literal) (id : ℕ) : Type 0 where
  pub clause : List Literal
  pub named : clause_at log id ≡ Some clause
  pub falsified : IsFalsified set clause

-- A decision opens the next level; what is implied belongs to the open one.
abbrev pub HasCause : List LogLine → List Entry → Literal → ℕ → Option ℕ → Type 0
HasCause log entries l level None = level ≡ top entries + 1
HasCause log entries l level (Some id) =
    (level ≡ top entries) × IsReason log (literals entries) id l

-- the entry may come after these: its variable is new, and it is a decision or implied
pub record MayFollow (log : List LogLine) (entries : List Entry) (e : Entry) : Type 0 where
  pub fresh : AllByRecursion (λ f. f.literal.var ≢ e.literal.var) entries
  pub cause : HasCause log entries e.literal e.level e.reason

-- each entry may come after those before it
abbrev pub IsTrail : List LogLine → List Entry → Type 0
IsTrail log [] = Unit {0}
IsTrail log (e ∷ entries) = MayFollow log entries e × IsTrail log entries

-- the new entries are the old ones with some that are implied before them
pub record AddsImplied (old new : List Entry) : Type 0 where
  pub added : List Entry
  pub same : new ≡ added ++ old
  pub implied : AllByRecursion (λ e. IsSome e.reason) added

-- a clause is neither unit nor false: it is true, or two of its literals are unset
abbrev pub IsQuiet : List Literal → List Literal → Type 0
IsQuiet set c = IsTrueUnder set c ⊎ HasTwoUnset set c

abbrev pub AreQuiet : List Literal → List (List Literal) → Type 0
AreQuiet set cs = AllByRecursion (IsQuiet set) cs

-- No unit is missed: in the trail as it stood when each open level opened, each clause of the log
-- was true or had two unset literals, also those that were learned since.
abbrev pub MissesNoUnit : List LogLine → List Entry → Type 0
MissesNoUnit log entries =
    (level : ℕ) → 1 ≤ level → level ≤ top entries →
    AreQuiet (literals (before level entries)) (clauses log)

-- each decision is one of these literals
abbrev pub AreDecided : List Literal → List Entry → Type 0
AreDecided want entries = AllByRecursion (λ e. e.reason ≡ None → Among want e.literal) entries
