-- Where the values of variables stand in a state and an input; private clauses alone speak of it.
use Rattle.std.specs.Prelude.{ℕ, ◌+◌, List, [], ◌∷◌, Option, Some, None, if◌then◌else◌, slice_get}
use Rattle.smv_tree.specs.declared.value.Value.{Value}
use Rattle.smv_meaning.specs.Instances.{Variable}
use Rattle.smv_meaning.specs.Values.{is_of_state}
use Rattle.smv_flat.specs.declared.spots.Spot.{Spot}
use Rattle.smv_flat.specs.declared.spots.Spot.TheVariants as spot

-- the spots of variables, where so many values of a state and of an input stand before
abbrev pub spots : ℕ → ℕ → List Variable → List Spot
spots states inputs [] = []
spots states inputs (v ∷ vars) =
    if is_of_state v.kind then spot.State states ∷ spots (states + 1) inputs vars
    else spot.Input inputs ∷ spots states (inputs + 1) vars

-- the value at a place
abbrev pub one_of : Option Value → List Value
one_of (Some v) = v ∷ []
one_of None = []

abbrev pub one_at : List Value → ℕ → List Value
one_at values place = one_of (slice_get values place)

-- the value at a spot
abbrev pub at_spot : List Value → List Value → Option Spot → List Value
at_spot state input (Some (spot.State place)) = one_at state place
at_spot state input (Some (spot.Input place)) = one_at input place
at_spot state input None = []
