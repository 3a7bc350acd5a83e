use Rattle.std.specs.Prelude.{ℕ, ◌+◌, ◌*◌, ◌/◌, ◌%◌, Bool, true, false, if◌then◌else◌, ◌==◌, not, max, List, [], ◌∷◌}

-- a node, or its negation
pub record Literal : Type 0 where
  pub node : ℕ
  pub negative : Bool

-- the literal that a number stands for: half of it is the node, and the odd ones are negative
abbrev pub literal_of : ℕ → Literal
literal_of n = record { node = n / 2; negative = n % 2 == 1 }

-- the number that stands for a literal
abbrev pub code_of : Literal → ℕ
code_of l = 2 * l.node + (if l.negative then 1 else 0)

-- the negation of a literal
abbrev pub negated : Literal → Literal
negated l = record { node = l.node; negative = not l.negative }

-- the literal of a node, not negated
abbrev pub positive : ℕ → Literal
positive n = record { node = n; negative = false }

-- the literal that is always true, and its negation
abbrev pub always : Literal
always = record { node = 0; negative = false }

abbrev pub never : Literal
never = record { node = 0; negative = true }

-- how many nodes a list of literals needs: one more than its greatest node
abbrev pub span : List Literal → ℕ
span [] = 0
span (l ∷ ls) = max (l.node + 1) (span ls)
