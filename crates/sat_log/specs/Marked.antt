-- A table of the literals that are set.
use Rattle.std.specs.Prelude.{◌≡◌, ◌==◌, ◌+◌, ◌*◌, ◌<◌, ◌≤◌, ℕ, Bool, false, if◌then◌else◌, nat_lt, nat_eq, List, length, count_by}
use Rattle.std.specs.List.{AllByRecursion, list_any, slice_index_or, position_or_len}
use Rattle.sat_log.specs.Literal.{Literal}
use Rattle.sat_log.specs.Packing.{packed}
use Rattle.sat_log.specs.declared.line.LogLine.{LogLine}

-- Which literals are set, in the order in which they were, and for which variables there is room:
-- those up to one, and some that are far from those.
pub record Marked : Type 0 where
  pub room : ℕ
  pub far : List ℕ
  pub set : List Literal

-- whether one of the literals is the one of this number
abbrev pub is_numbered : List Literal → ℕ → Bool
is_numbered set n = list_any (λ l. packed l == n) set

-- The place of a variable: its number, up to the room, and then the far ones in their order. A
-- variable without room would be behind them all.
abbrev pub place : ℕ → List ℕ → ℕ → ℕ
place room far v = if nat_lt room v then room + 1 + position_or_len (nat_eq v) far else v

-- how many places there are
abbrev pub places : ℕ → List ℕ → ℕ
places room far = room + 1 + length far

-- there is room for the variable
abbrev pub HasPlace : ℕ → List ℕ → ℕ → Type 0
HasPlace room far v = place room far v < places room far

-- there is room for the variables of the clause
abbrev pub HasRoomFor : Marked → List Literal → Type 0
HasRoomFor marks c = AllByRecursion (λ l. HasPlace marks.room marks.far l.var) c

-- there is room for the variables of all lines
abbrev pub HasRoomForAll : Marked → List LogLine → Type 0
HasRoomForAll marks log = AllByRecursion (λ line. HasRoomFor marks line.lits) log

-- where the one has room, the other has
abbrev pub KeepsRoom : Marked → Marked → Type 0
KeepsRoom old new = (v : ℕ) → HasPlace old.room old.far v → HasPlace new.room new.far v

-- a literal at the place of its variable
abbrev pub placed : ℕ → List ℕ → Literal → Literal
placed room far l = record { var = place room far l.var; negative = l.negative }

-- whether one of the literals has this number in the table
abbrev pub is_placed : ℕ → List ℕ → List Literal → ℕ → Bool
is_placed room far set n = list_any (λ l. packed (placed room far l) == n) set

-- The table has a truth value for each literal that has a place: true at just those of the trail,
-- which has room for all of them.
pub record Agrees (room : ℕ) (far : List ℕ) (truths : List Bool) (trail : List Literal)
    (capacity : ℕ) : Type 0 where
  pub size : 2 * places room far ≤ length truths
  pub within : AllByRecursion (λ l. HasPlace room far l.var) trail
  pub values : (n : ℕ) → n < length truths →
      slice_index_or truths n false ≡ is_placed room far trail n
  pub count : count_by (λ b. b) truths ≡ length trail
  pub spare : length truths ≤ capacity

-- no literal is set in the table
abbrev pub IsClear : List Bool → Type 0
IsClear truths = (n : ℕ) → n < length truths → slice_index_or truths n false ≡ false
