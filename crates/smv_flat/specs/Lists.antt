-- Lists of values as the program has them, and what it answers.
use Rattle.std.specs.Prelude.{◌≡◌, List, [], ◌∷◌, Option, Some, None, Result, Ok, Err, ⊤}
use Rattle.smv_tree.specs.declared.value.Value.{Value}
use Rattle.smv_flat.specs.declared.value_list.ValueList.{ValueList}
use Rattle.smv_flat.specs.declared.value_list.ValueList.TheVariants as lists
use Rattle.smv_flat.specs.declared.value_list.EvalFault.{EvalFault}
use Rattle.smv_flat.specs.declared.value_list.EvalFault.TheVariants as faults

-- the values of a list
abbrev pub values_of : ValueList → List Value
values_of lists.None = []
values_of (lists.One v) = v ∷ []
values_of (lists.Shown all) = all.now
values_of (lists.Many all) = all.items

-- an answer tells these values, or that a part that was looked at cannot be held; or want of memory
abbrev pub Answers : Result ValueList EvalFault → Option (List Value) → Type 0
Answers (Ok list) found = found ≡ Some (values_of list)
Answers (Err faults.TooLarge) found = found ≡ None
Answers (Err (faults.NoMemory e)) found = ⊤
