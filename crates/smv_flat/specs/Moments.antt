-- The values of names and of expressions of a flat model in a state, an input and a next state.
use Rattle.std.specs.Prelude.{ℕ, List, [], ◌∷◌, ◌++◌, Option, Some, option_map, option_and_then, map}
use Rattle.smv_tree.specs.declared.value.Value.{Value}
use Rattle.smv_meaning.specs.FlatTrees.{Flat, Numbers}
use Rattle.smv_meaning.specs.FlatLines.{def_values}
use Rattle.smv_flat.specs.Fitting.{fitting_eval}
use Rattle.smv_flat.specs.FlatModels.{FlatModel, FlatDefinition, bodies_of}
use Rattle.smv_flat.specs.Slots.{slots_of}

-- the values of variables and of definitions
abbrev pub numbers_with : List (List Value) → List (List Value) → Numbers
numbers_with slots defs = record { slots = slots; defs = defs }

-- the values of the variables and of all definitions of a flat model in a state and an input
abbrev pub flat_numbers : FlatModel → List Value → List Value → Numbers
flat_numbers flat state input =
    numbers_with (slots_of flat.vars state input)
    (def_values (slots_of flat.vars state input) [] (bodies_of flat))

-- definitions whose values are known, and one more, if the program can hold its values
abbrev pub one_more : List (List Value) → List (List Value) → Flat → Option (List (List Value))
one_more slots known body =
    let now = numbers_with slots known in
    option_map (λ vs. known ++ vs ∷ []) (fitting_eval now now body)

-- those that are known, and then the others in their order, if the program can hold all their values
abbrev pub fitting_defs : List (List Value) → List (List Value) → List FlatDefinition
    → Option (List (List Value))
fitting_defs slots known [] = Some known
fitting_defs slots known (d ∷ ds) =
    option_and_then (λ more. fitting_defs slots more ds) (one_more slots known d.body)

-- the values of all definitions in a state and an input, if the program can hold them
abbrev pub all_defs : FlatModel → List Value → List Value → Option (List (List Value))
all_defs flat state input = fitting_defs (slots_of flat.vars state input) [] flat.defs

-- the same with the values of the variables
abbrev pub fitting_numbers : FlatModel → List Value → List Value → Option Numbers
fitting_numbers flat state input =
    option_map (numbers_with (slots_of flat.vars state input)) (all_defs flat state input)

-- the values of an expression in a state, an input and a next state, if the program can hold each
-- value that is looked at and those of all definitions
abbrev pub fitting_at : FlatModel → List Value → List Value → List Value → Flat → Option (List Value)
fitting_at flat state input next e =
    option_and_then
    (λ now. option_and_then (λ later. fitting_eval now later e) (fitting_numbers flat next []))
    (fitting_numbers flat state input)
