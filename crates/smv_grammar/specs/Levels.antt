-- Levels of operators.
use Rattle.std.specs.Prelude.{ℕ, Option, Some, None}

-- the level of an operator, or 0 where there is none
abbrev pub level_of : {X : Type 0} → Option (ℕ × X) → ℕ
level_of None = 0
level_of (Some x) = x.0
