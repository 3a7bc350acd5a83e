-- What is found for a path of names by the tables of a program.
use Rattle.std.specs.Prelude.{ℕ, ◌==◌, ◌&&◌, List, [], ◌∷◌, codes, Option, Some, None, if◌then◌else◌, position, slice_get, option_map, option_and_then}
use Rattle.std.specs.Map.{lookup}
use Rattle.std.specs.Str.{bytes_eq}
use Rattle.smv_names.specs.declared.declared.Declared.{Declared}
use Rattle.smv_names.specs.declared.declared.Declared.TheVariants as declared
use Rattle.smv_names.specs.declared.target.Target.{Target}
use Rattle.smv_names.specs.declared.target.Target.TheVariants as target
use Rattle.smv_names.specs.declared.scopes.ModuleNames.{ModuleNames}
use Rattle.smv_names.specs.declared.scopes.Scopes.{Scopes}
use Rattle.smv_names.specs.declared.resolver.Resolver.{Resolver}

-- the names of the module of an instance
abbrev pub names_at : Scopes → ℕ → Option ModuleNames
names_at s n = option_and_then (slice_get s.modules.items) (slice_get s.module_numbers.items n)

abbrev pub declared_at : Scopes → ℕ → List ℕ → Option Declared
declared_at s n m = option_and_then (λ names. lookup (bytes_eq m) names.items) (names_at s n)

abbrev pub parameter_at : Scopes → ℕ → List ℕ → Option ℕ
parameter_at s n m = option_and_then (λ names. lookup (bytes_eq m) names.parameters) (names_at s n)

-- the instance that an item of an instance declares
abbrev pub child_in : List ((ℕ × ℕ) × ℕ) → ℕ → ℕ → Option ℕ
child_in children n k = lookup (λ key. (n == key.0) && (k == key.1)) children

abbrev pub item_target : Resolver → ℕ → Declared → Option Target
item_target r n (declared.Variable k) = Some (target.Variable n k)
item_target r n (declared.Define k rank) = Some (target.Define n k)
item_target r n (declared.Instance k) = option_map target.Instance (child_in r.children.entries n k)

abbrev pub target_behind : Resolver → Option Target → List ℕ → Option Target
target_behind r (Some (target.Instance n)) m = option_and_then (item_target r n) (declared_at r.scopes n m)
target_behind r _ m = None

abbrev pub actual_at : Resolver → ℕ → ℕ → Option Target
actual_at r n k =
    option_and_then (λ ts. option_and_then (λ t. t) (slice_get ts.items k)) (slice_get r.actuals.items n)

abbrev pub outside_target : Resolver → ℕ → List ℕ → Option Target
outside_target r n m =
    if bytes_eq m (codes "self")
    then Some (target.Instance n)
    else option_map target.Symbol (position (bytes_eq m) r.symbols)

abbrev pub first_target : Resolver → ℕ → List ℕ → Option Target
first_target r n m =
    elim (parameter_at r.scopes n m) [
      | Some k ↦ actual_at r n k
      | None ↦ elim (declared_at r.scopes n m) [ Some d ↦ item_target r n d | None ↦ outside_target r n m ]
    ]

abbrev pub further_target : Resolver → Option Target → List (List ℕ) → Option Target
further_target r t [] = t
further_target r t (m ∷ ms) = further_target r (target_behind r t m) ms

abbrev pub resolved : Resolver → ℕ → List (List ℕ) → Option Target
resolved r n [] = None
resolved r n (m ∷ ms) = further_target r (first_target r n m) ms
