-- What is known of the instances of a program whose modules have no faults.
use Rattle.std.specs.Prelude.{◌≡◌, ◌<◌, ℕ, List, [], ◌∷◌, Contains, length, Some, slice_get}
use Rattle.std.specs.Map.{lookup}
use Rattle.std.specs.Str.{bytes_eq}
use Rattle.smv_tree.specs.declared.program.Kind.{Kind}
use Rattle.smv_tree.specs.declared.place.Place.{Place}
use Rattle.smv_tree.specs.Models.{Body, variable, instance}
use Rattle.smv_meaning.specs.Instances.{Instance, instances}
use Rattle.smv_meaning.specs.Rows.{IsNumber}
use Rattle.smv_names.specs.declared.declared.Declared.TheVariants as declared
use Rattle.smv_names.specs.Tables.{part_entries}

-- an instance declares another one: by a name, which counts, and with its actual parameters
pub record Declares (i j : Instance) (m : List ℕ) (k : ℕ) : Type 0 where
  pub named : lookup (bytes_eq m) (part_entries 0 0 i.body.parts) ≡ Some (declared.Instance k)
  pub kind : Kind
  pub place : Place
  pub at : Place
  pub of : List ℕ
  pub item : slice_get i.body.parts k ≡ Some (variable kind m place (instance of at j.actuals))

-- no two instances have the same names, each stands behind the one around it, each declared instance is there, each is declared by the one
-- around it, and each has as many actual parameters as its module has parameters
pub record IsWhole (program : List Body) : Type 0 where
  pub one : (a b : ℕ) (i j : Instance) → slice_get (instances program) a ≡ Some i
      → slice_get (instances program) b ≡ Some j → i.up ≡ j.up → a ≡ b
  pub ordered : (a b : ℕ) (i j : Instance) (m : List ℕ) → slice_get (instances program) a ≡ Some i
      → slice_get (instances program) b ≡ Some j → j.up ≡ m ∷ i.up → a < b
  pub there : (i : Instance) (m : List ℕ) (k : ℕ) → Contains (instances program) i
      → lookup (bytes_eq m) (part_entries 0 0 i.body.parts) ≡ Some (declared.Instance k)
      → (c : ℕ) × IsNumber program c (m ∷ i.up)
  pub given : (i j : Instance) (m : List ℕ) → Contains (instances program) i → Contains (instances program) j
      → j.up ≡ m ∷ i.up → (k : ℕ) × Declares i j m k
  pub matched : (i : Instance) → Contains (instances program) i → length i.actuals ≡ length i.body.params
  pub main : (i : Instance) → Contains (instances program) i → i.up ≡ [] → i.actuals ≡ []
