-- What a mark means.
use Rattle.std.specs.Prelude.{◌≡◌, ℕ, ◌-◌, ◌<◌, List, slice_get, length}
use Rattle.smv_tree.specs.declared.value.Value.{Value}

-- the state of this number and the last one are equal
pub record Repeats (states : List (List Value)) (n : ℕ) : Type 0 where
  pub stands : n < length states
  pub equal : slice_get states n ≡ slice_get states (length states - 1)
