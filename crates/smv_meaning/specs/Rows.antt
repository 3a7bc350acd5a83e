-- The instances of a program by number.
use Rattle.std.specs.Prelude.{◌≡◌, ℕ, List, [], ◌∷◌, ◌++◌, Contains, Some, position, slice_get}
use Rattle.std.specs.List.{AllZip}
use Rattle.std.specs.Str.{bytes_eq}
use Rattle.smv_tree.specs.Models.{Body}
use Rattle.smv_meaning.specs.Instances.{Instance, instances}
use Rattle.smv_meaning.specs.Definitions.{outer}

-- what is told of an instance: its path, the number of its module in the program, and the number of
-- the instance around it
pub record Row : Type 0 where
  pub path : List (List ℕ)
  pub module_number : ℕ
  pub parent : ℕ

-- an instance has this number, and these names from the innermost outwards
pub record IsNumber (program : List Body) (n : ℕ) (up : List (List ℕ)) : Type 0 where
  pub instance : Instance
  pub there : slice_get (instances program) n ≡ Some instance
  pub of : instance.up ≡ up

-- the row of an instance: its module is the first of that name, and the main instance is around itself
pub record IsRow (program : List Body) (i : Instance) (r : Row) : Type 0 where
  pub path : r.path ≡ i.path
  pub first : position (λ b. bytes_eq b.name i.body.name) program ≡ Some r.module_number
  pub parent : IsNumber program r.parent (outer i.up)

-- a row for each instance, in order
abbrev pub AreRows : List Body → List Row → Type 0
AreRows program rows = AllZip (IsRow program) (instances program) rows

-- the main instance
pub record IsMain (i : Instance) : Type 0 where
  pub path : i.path ≡ []
  pub up : i.up ≡ []

-- the instance of this name right behind another of the program
pub record IsBehind (program : List Body) (i : Instance) (j : Instance) (n : List ℕ) : Type 0 where
  pub listed : Contains (instances program) j
  pub path : i.path ≡ j.path ++ n ∷ []
  pub up : i.up ≡ n ∷ j.up
