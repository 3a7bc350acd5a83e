-- What the longest symbol is that bytes begin with.
use Rattle.std.specs.Prelude.{◌≡◌, ◌≤◌, ℕ, true, List, Option, Some, None, length, nat_eq}
use Rattle.std.specs.List.{Contains, starts_with}
use Rattle.smv_token.specs.declared.mark.Mark.{Mark}
use Rattle.smv_token.specs.Marks.{symbols, text}

-- a symbol stands at the front
pub record Stands (bytes : List ℕ) (m : Mark) : Type 0 where
  pub symbol : Contains symbols m
  pub front : starts_with nat_eq bytes (text m) ≡ true

-- it stands there, and none that stands there is longer
pub record IsLongest (bytes : List ℕ) (m : Mark) : Type 0 where
  pub stands : Stands bytes m
  pub most : (n : Mark) → Stands bytes n → length (text n) ≤ length (text m)

-- this is the longest, or none stands there
abbrev pub BeginsWith : List ℕ → Option Mark → Type 0
BeginsWith bytes None = (n : Mark) → Stands bytes n → ⊥
BeginsWith bytes (Some m) = IsLongest bytes m
