-- What clauses over the variables of nodes say of the nodes.
use Rattle.std.specs.Prelude.{◌≤◌, Bool, List, length}
use Rattle.gates.specs.declared.node.Node.{Node}
use Rattle.gates.specs.Valuation.{IsValuation}
use Rattle.sat_log.specs.Literal.{Literal}
use Rattle.sat_log.specs.Clauses.{Satisfies}
use Rattle.sat_core.specs.Assignment.{assignment}

-- The clauses define gates and demand nothing: whatever values the inputs have, they are true where
-- each conjunction has the value that its parts give it.
abbrev pub IsDefinitional : List Node → List (List Literal) → Type 0
IsDefinitional nodes clauses = (values : List Bool) → IsValuation nodes values →
    Satisfies (assignment values) clauses

-- The clauses are all that define the gates: they are true nowhere else.
abbrev pub IsWhole : List Node → List (List Literal) → Type 0
IsWhole nodes clauses = (values : List Bool) → length nodes ≤ length values →
    Satisfies (assignment values) clauses → IsValuation nodes values
