-- Truth values of variables, and what they make true.
use Rattle.std.specs.Prelude.{◌-◌, ℕ, Bool, false, List, slice_index_or, IsTrue}
use Rattle.std.specs.List.{AllByRecursion}
use Rattle.sat_log.specs.Literal.{Literal}
use Rattle.sat_log.specs.Clauses.{literal_value}

-- the value of each variable, from the list of those of the variables 1, 2 and so on
abbrev pub assignment : List Bool → ℕ → Bool
assignment bits v = slice_index_or bits (v - 1) false

-- every literal is true
abbrev pub AreTrue : (ℕ → Bool) → List Literal → Type 0
AreTrue v c = AllByRecursion (λ l. IsTrue (literal_value v l)) c
