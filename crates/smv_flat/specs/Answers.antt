-- What the calls on a flat model answer.
use Rattle.std.specs.Prelude.{◌≡◌, ◌↔◌, ◌<◌, ◌≤◌, length, Bool, true, IsTrue, List, [], ◌∷◌, Option, Some, None, Result, Ok, Err, ⊤}
use Rattle.smv_tree.specs.declared.value.Value.{Value}
use Rattle.smv_tree.specs.declared.value.Value.TheVariants.{Truth}
use Rattle.smv_flat.specs.declared.flat_model.FlatLists.{FlatLists}
use Rattle.smv_flat.specs.declared.flat_model.FlatFault.{FlatFault}
use Rattle.smv_flat.specs.declared.flat_model.FlatFault.TheVariants as flat_faults
use Rattle.smv_flat.specs.declared.value_list.EvalFault.{EvalFault}
use Rattle.smv_flat.specs.declared.value_list.EvalFault.TheVariants as faults

-- the flat model of these lists, if there are no more than 100,000 variables
abbrev pub IsFlat : FlatLists → Result FlatLists FlatFault → Type 0
IsFlat lists (Ok flat) = (length lists.vars.items ≤ 100000) × (flat ≡ lists)
IsFlat lists (Err flat_faults.Variables) = 100000 < length lists.vars.items
IsFlat lists (Err (flat_faults.NoMemory e)) = ⊤

-- an answer is what was found, seen so, or says that a value cannot be held; or want of memory
abbrev pub Gives : {A X : Type 0} → (A → X) → Result A EvalFault → Option X → Type 0
Gives view (Ok a) found = found ≡ Some (view a)
Gives view (Err faults.TooLarge) found = found ≡ None
Gives view (Err (faults.NoMemory e)) found = ⊤

-- an answer says whether the values are the one value `TRUE`
abbrev pub Decides : Result Bool EvalFault → Option (List Value) → Type 0
Decides (Ok b) (Some vs) = IsTrue b ↔ (vs ≡ Truth true ∷ [])
Decides (Ok b) None = ⊥
Decides (Err faults.TooLarge) found = found ≡ None
Decides (Err (faults.NoMemory e)) found = ⊤
