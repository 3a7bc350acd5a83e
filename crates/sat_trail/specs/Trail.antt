-- What is true in a search, and since when.
use Rattle.std.specs.Prelude.{◌≡◌, ◌⊎◌, ◌-◌, ◌+◌, ◌*◌, ◌<◌, ◌≤◌, ℕ, Bool, false, Option, None, if◌then◌else◌, nat_lt, List, [], ◌∷◌, length, map, drop, slice_index_or}
use Rattle.std.specs.List.{AllByRecursion}
use Rattle.sat_log.specs.Literal.{Literal, negated}
use Rattle.sat_log.specs.Clause.{Among, HasDistinctVariables}
use Rattle.sat_log.specs.Marked.{is_numbered}
use Rattle.sat_trail.specs.declared.trail.Entry.{Entry}

-- how many variables there are, and the entries, of which the latest comes first
pub record Trailed : Type 0 where
  pub variables : ℕ
  pub entries : List Entry

-- the literals that are true
abbrev pub literals : List Entry → List Literal
literals entries = map (λ e. e.literal) entries

-- the level at which the latest entry was made: as many levels are open
abbrev pub top : List Entry → ℕ
top [] = 0
top (e ∷ entries) = e.level

-- the trail as it stood when this level opened
abbrev pub before : ℕ → List Entry → List Entry
before level [] = []
before level (e ∷ entries) = if nat_lt e.level level then e ∷ entries else before level entries

-- the trail when it had so many entries
abbrev pub bottom : ℕ → List Entry → List Entry
bottom n entries = drop (length entries - n) entries

-- how many literals there are, true and false, with two places that stay empty
abbrev pub places : ℕ → ℕ
places variables = 2 * variables + 2

-- the entry of a literal, where the variables have these levels and reasons
abbrev pub entry_of : List ℕ → List (Option ℕ) → Literal → Entry
entry_of levels reasons l = record {
  literal = l;
  level = slice_index_or levels l.var 0;
  reason = slice_index_or reasons l.var None;
}

-- the entry of the variable, if there is one, was made when there were so many others
abbrev pub IsPosition : ℕ → ℕ → List Entry → Type 0
IsPosition v position [] = Unit {0}
IsPosition v position (e ∷ entries) =
    (e.literal.var ≡ v → position ≡ length entries) × IsPosition v position entries

-- the table has, at the variable of each literal, how many come behind it
abbrev pub HasPositions : List ℕ → List Literal → Type 0
HasPositions positions [] = Unit {0}
HasPositions positions (l ∷ true_) =
    (slice_index_or positions l.var 0 ≡ length true_) × HasPositions positions true_

-- The tables fit the literals that are true, of which the latest comes first: a truth value for
-- each literal, and a level, a reason and a position for each variable.
pub record KeepsTrail (variables : ℕ) (truths : List Bool) (levels : List ℕ)
    (reasons : List (Option ℕ)) (positions : List ℕ) (true_ : List Literal)
    (capacity : ℕ) : Type 0 where
  pub truths_size : length truths ≡ places variables
  pub levels_size : length levels ≡ variables + 1
  pub reasons_size : length reasons ≡ variables + 1
  pub positions_size : length positions ≡ variables + 1
  pub within : AllByRecursion (λ l. (1 ≤ l.var) × (l.var ≤ variables)) true_
  pub distinct : HasDistinctVariables true_
  pub values : (n : ℕ) → n < length truths → slice_index_or truths n false ≡ is_numbered true_ n
  pub positioned : HasPositions positions true_
  pub spare : variables ≤ capacity

-- each variable up to the last is true or false
abbrev pub AreAllSet : ℕ → List Literal → Type 0
AreAllSet variables set =
    (l : Literal) → 1 ≤ l.var → l.var ≤ variables → Among set l ⊎ Among set (negated l)
