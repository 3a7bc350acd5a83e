-- Sets of symbols.
use Rattle.std.specs.Prelude.{◌≡◌, ℕ, Bool, ◌||◌, List}
use Rattle.std.specs.List.{list_any}
use Rattle.std.specs.Str.{bytes_eq}

-- a name is among these
abbrev pub has : List (List ℕ) → List ℕ → Bool
has names m = list_any (bytes_eq m) names

-- the new names are the old ones and those of which this holds
abbrev pub Gains : (List ℕ → Bool) → List (List ℕ) → List (List ℕ) → Type 0
Gains holds old new = (m : List ℕ) → has new m ≡ (has old m || holds m)
