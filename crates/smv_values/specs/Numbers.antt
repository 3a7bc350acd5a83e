-- Integers by their sign and magnitude.
use Rattle.std.specs.Prelude.{ℕ, Bool, ℤ, pos, neg_ℤ, if◌then◌else◌}

-- the integer below zero or not, and so far from it
abbrev pub signed : Bool → ℕ → ℤ
signed negative magnitude = if negative then neg_ℤ (pos magnitude) else pos magnitude
