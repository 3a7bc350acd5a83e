-- Which clauses of the log a search looks after.
use Rattle.std.specs.Prelude.{◌≡◌, ◌⊎◌, ◌≤◌, ℕ, Bool, true, false, Option, None, Some, IsSome, IfSome, List, [], ◌∷◌, length}
use Rattle.sat_log.specs.Literal.{Literal, negated}
use Rattle.sat_log.specs.Clause.{Among}
use Rattle.sat_log.specs.Accepted.{clause_at}
use Rattle.sat_log.specs.Learned.{IsTrueUnder}
use Rattle.sat_log.specs.declared.line.LogLine.{LogLine}
use Rattle.sat_trail.specs.Trail.{Trailed, literals, before}
use Rattle.sat_trail.specs.Units.{IsConflict}
use Rattle.sat_trail.specs.declared.trail.Entry.{Entry}
use Rattle.sat_propagation.specs.declared.propagation.Line.{Line}
use Rattle.sat_propagation.specs.Watching.{Propagated, IsReady, IsWatchedFor, Adds, Serves}

-- The clause of this id is watched, or true at level 0, or some clause is known to be false there.
abbrev pub IsServed : List Entry → Propagated → Option ℕ → ℕ → List Literal → Type 0
IsServed entries p false_clause id c =
    IsWatchedFor p id ⊎ (IsTrueUnder (literals (before 1 entries)) c ⊎ IsSome false_clause)

-- so it is with each clause up to this id
abbrev pub AreServed : List LogLine → List Entry → Propagated → Option ℕ → ℕ → Type 0
AreServed log entries p false_clause attached =
    (id : ℕ) (c : List Literal) → id ≤ attached → clause_at log id ≡ Some c →
    IsServed entries p false_clause id c

-- Propagation may go on, the clauses of the first lines are served, and one that is known to be
-- false at level 0 is so.
pub record KeepsAttached (log : List LogLine) (trail : Trailed) (p : Propagated) (attached : ℕ)
    (false_clause : Option ℕ) : Type 0 where
  pub ready : IsReady log trail p
  pub within : attached ≤ length log
  pub served : AreServed log trail.entries p false_clause attached
  pub conflict : IfSome false_clause (IsConflict log (literals (before 1 trail.entries)))

-- The first two of these literals are watched by the pair of this number, where there are two of
-- them.
abbrev pub WatchesTwo : Propagated → Propagated → List Literal → Option ℕ → Type 0
WatchesTwo old new [] None = new ≡ old
WatchesTwo old new (a ∷ []) None = new ≡ old
WatchesTwo old new (a ∷ b ∷ c) None = ⊥
WatchesTwo old new [] (Some w) = ⊥
WatchesTwo old new (a ∷ []) (Some w) = ⊥
WatchesTwo old new (a ∷ b ∷ c) (Some w) = Adds old new a b w

-- Where one of the two literals is false the trail is looked at again, and else all is as it was.
abbrev pub LooksAgain : List Literal → Propagated → Propagated → Literal → Literal → Type 0
LooksAgain set old new a b =
    (new ≡ record { watched = old.watched; lines = old.lines; looked = 0 }) ⊎
    ((new ≡ old) × (¬ Among set (negated a) × ¬ Among set (negated b)))

-- the pair of this number, if there is one, watches for this line
abbrev pub ServesIf : Propagated → Propagated → Option ℕ → Line → Type 0
ServesIf old new None line = new ≡ old
ServesIf old new (Some w) line = Serves old new w line

-- the clause of this id is watched or true, or it is false and this isn't so
abbrev pub Attaches : List LogLine → List Entry → Propagated → ℕ → Bool → Type 0
Attaches log entries p id true =
    (c : List Literal) → clause_at log id ≡ Some c →
    IsWatchedFor p id ⊎ IsTrueUnder (literals entries) c
Attaches log entries p id false = IsConflict log (literals entries) id
