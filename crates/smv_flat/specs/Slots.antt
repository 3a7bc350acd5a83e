-- The values of variables by number in a state and an input.
use Rattle.std.specs.Prelude.{ℕ, List, [], ◌∷◌, take, drop, if◌then◌else◌}
use Rattle.smv_tree.specs.declared.value.Value.{Value}
use Rattle.smv_meaning.specs.Instances.{Variable}
use Rattle.smv_meaning.specs.Values.{is_of_state}

-- each variable in turn has the next value of the state or of the input, as its kind says
abbrev pub slots_of : List Variable → List Value → List Value → List (List Value)
slots_of [] state input = []
slots_of (v ∷ vars) state input =
    if is_of_state v.kind then take 1 state ∷ slots_of vars (drop 1 state) input
    else take 1 input ∷ slots_of vars state (drop 1 input)
