-- Literals of the solver, seen without their packing.
use Rattle.std.specs.Prelude.{◌<◌, ◌≤◌, ◌^◌, ℕ, Bool, not}

-- a variable, and whether it is negated
pub record Literal : Type 0 where
  pub var : ℕ
  pub negative : Bool

-- the literal of the same variable with the other sign
abbrev pub negated : Literal → Literal
negated l = record { var = l.var; negative = not l.negative }

-- variables go from 1 to 9223372036854775807
abbrev pub IsVariable : ℕ → Type 0
IsVariable v = (1 ≤ v) × (v < 2 ^ 63)
