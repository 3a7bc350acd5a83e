-- Which items declare the instances of a program, by numbers.
use Rattle.std.specs.Prelude.{◌≡◌, ◌<◌, ℕ, ◌==◌, ◌&&◌, ◌-◌, List, [], length, Option, Some, None, if◌then◌else◌, slice_get, option_and_then}
use Rattle.smv_tree.specs.Trees.{Tree, name}
use Rattle.smv_tree.specs.Models.{Body, Part, variable, instance}
use Rattle.smv_meaning.specs.Instances.{list_of}
use Rattle.smv_meaning.specs.Rows.{Row}
use Rattle.smv_names.specs.declared.declared.Declared.{Declared}
use Rattle.smv_names.specs.declared.declared.Declared.TheVariants as declared
use Rattle.smv_names.specs.declared.target.Target.{Target}
use Rattle.smv_names.specs.declared.target.Target.TheVariants as target
use Rattle.smv_names.specs.declared.scopes.Scopes.{Scopes}
use Rattle.smv_names.specs.declared.resolver.Resolver.{Resolver}
use Rattle.smv_names.specs.Lookups.{declared_at, child_in, resolved}

-- the number of an instance and of an item of it that declares an instance
abbrev pub item_key : ℕ → Declared → Option (ℕ × ℕ)
item_key n (declared.Instance k) = Some (n, k)
item_key n _ = None

-- the item that declares the instance of a row: that of its last name, in the instance around it
abbrev pub declaration_of : Scopes → Row → Option (ℕ × ℕ)
declaration_of s row =
    option_and_then
    (λ m. option_and_then (item_key row.parent) (declared_at s row.parent m))
    (slice_get row.path (length row.path - 1))

-- an instance of this number is entered where an item declares it
abbrev pub IsEntered : List ((ℕ × ℕ) × ℕ) → Option (ℕ × ℕ) → ℕ → List ((ℕ × ℕ) × ℕ) → Type 0
IsEntered old None c new = (n k : ℕ) → child_in new n k ≡ child_in old n k
IsEntered old (Some q) c new = (n k : ℕ) →
    child_in new n k ≡ (if (q.0 == n) && (q.1 == k) then Some c else child_in old n k)

-- the instances below this number by the items that declare them
pub record AreEntered (s : Scopes) (rows : List Row) (below : ℕ) (children : List ((ℕ × ℕ) × ℕ)) : Type 0 where
  pub sound : (n k c : ℕ) → child_in children n k ≡ Some c
      → (row : Row) × (slice_get rows c ≡ Some row) × (declaration_of s row ≡ Some (n, k))
  pub complete : (n k c : ℕ) (row : Row) → c < below → slice_get rows c ≡ Some row
      → declaration_of s row ≡ Some (n, k) → (d : ℕ) × (child_in children n k ≡ Some d)

abbrev pub actuals_of : Part → List Tree
actuals_of (variable kind n p (instance m q es)) = es
actuals_of _ = []

-- the actual parameters that an item of a module gives
abbrev pub actuals_in : List Body → ℕ → ℕ → List Tree
actuals_in program m k =
    list_of actuals_of (option_and_then (λ (b : Body). slice_get b.parts k) (slice_get program m))

-- those of the instance that an item of an instance declares
abbrev pub actuals_by : List Body → Scopes → Option (ℕ × ℕ) → List Tree
actuals_by program s None = []
actuals_by program s (Some (n, k)) = list_of (λ m. actuals_in program m k) (slice_get s.module_numbers.items n)

-- what an actual parameter stands for, which stands in the instance around
abbrev pub given_target : Resolver → ℕ → ℕ → ℕ → Tree → Option Target
given_target r around n k (name p names) = resolved r around names
given_target r around n k e = Some (target.Parameter n k)

abbrev pub AreGiven : Resolver → ℕ → ℕ → List Tree → List (Option Target) → Type 0
AreGiven r around n es ts = (k : ℕ) (e : Tree) → slice_get es k ≡ Some e
    → slice_get ts k ≡ Some (given_target r around n k e)
