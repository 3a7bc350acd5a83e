-- Which clauses watch which literals.
use Rattle.std.specs.Prelude.{◌≡◌, ◌≢◌, ◌⊎◌, ◌==◌, ◌<◌, ℕ, false, Option, None, Some, if◌then◌else◌, List, [], ◌∷◌, length, slice_index_or, slice_set}
use Rattle.std.specs.List.{AllByRecursion}
use Rattle.sat_log.specs.Literal.{Literal}
use Rattle.sat_log.specs.Packing.{packed}

-- the two literals that a clause watches
pub record Pair : Type 0 where
  pub first : Literal
  pub second : Literal

-- the two of each clause, by its number, and for each literal, by its place, the clauses that watch
-- it
pub record Watched : Type 0 where
  pub pairs : List Pair
  pub lists : List (List ℕ)

-- there is a list for the literal
abbrev pub HasPlace : Watched → Literal → Type 0
HasPlace w l = packed l < length w.lists

-- the clauses that watch a literal
abbrev pub watchers : Watched → Literal → List ℕ
watchers w l = slice_index_or w.lists (packed l) []

-- what stands for the pair of a clause that there is not
abbrev pub no_pair : Pair
no_pair = record {
  first = record { var = 1; negative = false };
  second = record { var = 1; negative = false };
}

-- the two literals of the clause of this number
abbrev pub pair_at : Watched → ℕ → Pair
pair_at w c = slice_index_or w.pairs c no_pair

-- the literal is one of the two
abbrev pub HasWatch : Pair → Literal → Type 0
HasWatch pair l = (pair.first ≡ l) ⊎ (pair.second ≡ l)

-- the pair with another literal in place of one
abbrev pub changed : Pair → Literal → Literal → Pair
changed pair l to =
    if packed pair.first == packed l then record { first = to; second = pair.second }
    else record { first = pair.first; second = to }

-- the pairs after one has changed so
abbrev pub set_pair : List Pair → ℕ → Literal → Literal → List Pair
set_pair pairs c l to = slice_set pairs c (changed (slice_index_or pairs c no_pair) l to)

-- the clause is one of these
abbrev pub IsAmong : List ℕ → ℕ → Type 0
IsAmong [] c = ⊥
IsAmong (x ∷ clauses) c = (x ≡ c) ⊎ IsAmong clauses c

-- none of these stands twice
abbrev pub AreDistinct : List ℕ → Type 0
AreDistinct [] = Unit {0}
AreDistinct (x ∷ clauses) = AllByRecursion (λ c. c ≢ x) clauses × AreDistinct clauses

-- the first of some clauses
abbrev pub first_of : List ℕ → Option ℕ
first_of [] = None
first_of (x ∷ clauses) = Some x

-- the one behind a clause
abbrev pub next_of : List ℕ → ℕ → Option ℕ
next_of [] c = None
next_of (x ∷ clauses) c = if x == c then first_of clauses else next_of clauses c

-- the one behind a clause, or the first
abbrev pub after : List ℕ → Option ℕ → Option ℕ
after clauses None = first_of clauses
after clauses (Some c) = next_of clauses c

-- all but this one
abbrev pub without : ℕ → List ℕ → List ℕ
without c [] = []
without c (x ∷ clauses) = if x == c then clauses else x ∷ without c clauses

-- The list of a literal has exactly the clauses that watch it, each once.
pub record IsListOf (w : Watched) (l : Literal) : Type 0 where
  pub each : (c : ℕ) → c < length w.pairs → HasWatch (pair_at w c) l → IsAmong (watchers w l) c
  pub only : (c : ℕ) → IsAmong (watchers w l) c → (c < length w.pairs) × HasWatch (pair_at w c) l
  pub once : AreDistinct (watchers w l)

-- so is the list of each literal, and each clause watches two literals, which have lists
pub record IsWatching (w : Watched) : Type 0 where
  pub lists : (l : Literal) → HasPlace w l → IsListOf w l
  pub two : (c : ℕ) → c < length w.pairs → (pair_at w c).first ≢ (pair_at w c).second
  pub places : (c : ℕ) (l : Literal) → c < length w.pairs → HasWatch (pair_at w c) l → HasPlace w l

-- A clause came in front of the lists of two literals. The lists of others are as they were.
pub record Joins (old new : Watched) (a b : Literal) (c : ℕ) : Type 0 where
  pub first : watchers new a ≡ c ∷ watchers old a
  pub second : watchers new b ≡ c ∷ watchers old b
  pub others : (l : Literal) → HasPlace old l → l ≢ a → l ≢ b → watchers new l ≡ watchers old l
  pub places : length new.lists ≡ length old.lists

-- A clause left the list of one literal and came in front of that of another. The lists of others
-- are as they were.
pub record Moves (old new : Watched) (from to : Literal) (c : ℕ) : Type 0 where
  pub left : watchers new from ≡ without c (watchers old from)
  pub joined : watchers new to ≡ c ∷ watchers old to
  pub others : (l : Literal) → HasPlace old l → l ≢ from → l ≢ to → watchers new l ≡ watchers old l
  pub places : length new.lists ≡ length old.lists
