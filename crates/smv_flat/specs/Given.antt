-- A state or an input that may be left out, which then has no values.
use Rattle.std.specs.Prelude.{List, [], Option, Some, None}
use Rattle.smv_tree.specs.declared.value.Value.{Value}

abbrev pub given : Option (List Value) → List Value
given (Some values) = values
given None = []
