-- Conflict analysis: from a false clause back along the trail.
use Rattle.std.specs.Prelude.{◌≡◌, ◌≢◌, ◌⊎◌, ◌+◌, ◌≤◌, ◌==◌, ◌&&◌, ℕ, Bool, true, false, List, [], ◌∷◌, length, slice_index_or, count_by, if◌then◌else◌}
use Rattle.std.specs.List.{AllByRecursion, Contains}
use Rattle.sat_log.specs.Literal.{Literal, negated}
use Rattle.sat_log.specs.Clause.{Among, IsFalsified, IsUnset, HasDistinctVariables}
use Rattle.sat_log.specs.Accepted.{Refutes}
use Rattle.sat_log.specs.Learned.{StandsInSome, EachIsUsed}
use Rattle.sat_log.specs.declared.line.LogLine.{LogLine}
use Rattle.sat_trail.specs.Trail.{literals, before}
use Rattle.sat_trail.specs.declared.trail.Entry.{Entry}

-- the variables that are marked, the literals of the clause so far, and its hints so far
pub record Analyzed : Type 0 where
  pub seen : List Bool
  pub lits : List Literal
  pub hints : List ℕ

abbrev pub is_marked : List Bool → ℕ → Bool
is_marked seen v = slice_index_or seen v false

abbrev pub IsMarked : List Bool → ℕ → Type 0
IsMarked seen v = is_marked seen v ≡ true

-- no variable is marked
abbrev pub IsUnmarked : List Bool → Type 0
IsUnmarked seen = (v : ℕ) → is_marked seen v ≡ false

-- how many entries of the level are marked
abbrev pub marked_at : ℕ → List Bool → List Entry → ℕ
marked_at level seen [] = 0
marked_at level seen (e ∷ entries) =
    (if e.level == level && is_marked seen e.literal.var then 1 else 0) +
    marked_at level seen entries

-- how many variables are marked
abbrev pub marked_count : List Bool → ℕ
marked_count seen = count_by (λ b. b) seen

-- An analysis, and the positions of entries that it may have to look at.
pub record Walk : Type 0 where
  pub state : Analyzed
  pub positions : List ℕ

-- the position of each marked entry is among these
abbrev pub AreAwaited : List ℕ → List Bool → List Entry → Type 0
AreAwaited positions seen [] = Unit {0}
AreAwaited positions seen (e ∷ entries) =
    (IsMarked seen e.literal.var → Contains positions (length entries)) ×
    AreAwaited positions seen entries

-- Each marked entry of the rest of the trail is awaited, and there are no more positions than
-- marks.
pub record Awaits (w : Walk) (rest : List Entry) : Type 0 where
  pub marked : AreAwaited w.positions w.state.seen rest
  pub few : length w.positions ≤ marked_count w.state.seen

-- one of the entries is of the variable
abbrev pub HasVariable : List Entry → ℕ → Type 0
HasVariable [] v = ⊥
HasVariable (e ∷ entries) v = (e.literal.var ≡ v) ⊎ HasVariable entries v

-- a literal of the clause that is not true is of the variable
pub record HasOther (true_ c : List Literal) (v : ℕ) : Type 0 where
  pub literal : Literal
  pub stands : Among c literal
  pub other : ¬ Among true_ literal
  pub same : literal.var ≡ v

-- the variables of the clause's literals that are not true are marked too, and no others
pub record MarksOthers (true_ c : List Literal) (old new : List Bool) : Type 0 where
  pub keeps : (v : ℕ) → IsMarked old v → IsMarked new v
  pub all : (l : Literal) → Among c l → ¬ Among true_ l → IsMarked new l.var
  pub only : (v : ℕ) → IsMarked new v → IsMarked old v ⊎ HasOther true_ c v

-- each literal of the clause that is not true has its negation in a part of the trail
abbrev pub AreFalseIn : List Literal → List Literal → List Literal → Type 0
AreFalseIn true_ c part = (l : Literal) → Among c l → ¬ Among true_ l → Among part (negated l)

-- where these literals are set, the hints lead to a false clause, and each is used
abbrev pub Explains : List LogLine → List Literal → List ℕ → Type 0
Explains log set hints = Refutes log set hints × EachIsUsed log set hints

-- Set are the marked literals of the rest of the trail, the negations of the clause so far, and
-- nothing but such negations and literals of the rest.
pub record IsBase (rest : List Entry) (a : Analyzed) (set : List Literal) : Type 0 where
  pub marked : AllByRecursion (λ e. IsMarked a.seen e.literal.var → Among set e.literal) rest
  pub kept : AllByRecursion (λ l. Among set (negated l)) a.lits
  pub only : AllByRecursion (λ l. Among (literals rest) l ⊎ Among a.lits (negated l)) set

-- Of the trail only this rest is still to be looked at. Once its marked literals are explained, the
-- hints refute that the literals of the clause are false.
pub record IsAnalysis (log : List LogLine) (rest : List Entry) (a : Analyzed) : Type 0 where
  pub explains : (set : List Literal) → IsBase rest a set → Explains log set a.hints
  pub rest_drawn : AllByRecursion (λ e. IsMarked a.seen e.literal.var →
      StandsInSome log a.hints (negated e.literal)) rest
  pub lits_drawn : AllByRecursion (StandsInSome log a.hints) a.lits
  pub marks_within : (v : ℕ) → IsMarked a.seen v → HasVariable rest v
  pub distinct : HasDistinctVariables a.lits
  pub apart : AllByRecursion (λ e. AllByRecursion (λ l. l.var ≢ e.literal.var) a.lits) rest
  pub lits_room : length a.lits + length rest ≤ length a.seen
  pub hints_room : length a.hints + length rest ≤ length a.seen

-- Where the first of these literals is false before some level, so are the others: it is of the
-- latest level.
abbrev pub IsLatestFirst : List Entry → List Literal → Type 0
IsLatestFirst entries [] = Unit {0}
IsLatestFirst entries (o ∷ others) =
    (level : ℕ) → Among (literals (before level entries)) (negated o) →
    AllByRecursion (λ l. Among (literals (before level entries)) (negated l)) others

-- The first literal of the clause is unset before the level, and all others are false there, of
-- which the first is of the latest level; as long as there is none, some entry of the level is
-- marked.
abbrev pub IsAsserting : ℕ → List Entry → ℕ → List Literal → Type 0
IsAsserting level entries open_ [] = 1 ≤ open_
IsAsserting level entries open_ (u ∷ others) =
    (open_ ≡ 0) × IsUnset (literals (before level entries)) u ×
    AllByRecursion (λ l. Among (literals (before level entries)) (negated l)) others ×
    IsLatestFirst entries others

-- the first literal is unset, and all others are false
abbrev pub IsAsserted : List Literal → List Literal → Type 0
IsAsserted set [] = ⊥
IsAsserted set (u ∷ others) = IsUnset set u × IsFalsified set others

-- each literal is the negation of one of these
abbrev pub AreNegationsOf : List Literal → List Literal → Type 0
AreNegationsOf want c = AllByRecursion (λ l. Among want (negated l)) c

-- the level of the clause's second literal, or 0 where there is none
abbrev pub IsJump : List Entry → List Literal → ℕ → Type 0
IsJump entries [] level = Unit {0}
IsJump entries (u ∷ []) level = level ≡ 0
IsJump entries (u ∷ o ∷ others) level =
    AllByRecursion (λ e. e.literal.var ≡ o.var → e.level ≡ level) entries
