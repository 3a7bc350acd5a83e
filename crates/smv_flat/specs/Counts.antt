-- A count that goes on, operand by operand; private clauses alone speak of it.
use Rattle.std.specs.Prelude.{ℕ, ◌+◌, pos, Bool, true, false, List, [], ◌∷◌, Option, Some, None}
use Rattle.smv_tree.specs.declared.value.Value.{Value}
use Rattle.smv_tree.specs.declared.value.Value.TheVariants.{Int}

-- one operand more
abbrev pub count_more : Option ℕ → Option Bool → Option ℕ
count_more (Some n) (Some true) = Some (n + 1)
count_more (Some n) (Some false) = Some n
count_more n b = None

-- the count as values
abbrev pub count_values : Option ℕ → List Value
count_values (Some n) = Int (pos n) ∷ []
count_values None = []
