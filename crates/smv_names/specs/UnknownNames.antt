-- The names of a program that stand for nothing.
use Rattle.std.specs.Prelude.{ℕ, Bool, true, false, not, ◌&&◌, ◌||◌, List, [], ◌∷◌, ◌++◌, flat_map, Option, Some, is_some, if◌then◌else◌, slice_get, option_and_then}
use Rattle.std.specs.List.{list_any}
use Rattle.std.specs.Map.{lookup}
use Rattle.std.specs.Str.{bytes_eq}
use Rattle.smv_tree.specs.Trees.{trees}
use Rattle.smv_tree.specs.Models.{Body, Part, variable, define, assign, constraint, property, plain, instance}
use Rattle.type_fault.specs.declared.fault.TypeFault.{TypeFault}
use Rattle.type_fault.specs.declared.fault.TypeFault.TheVariants as faults
use Rattle.smv_meaning.specs.Instances.{Instance, instances, list_of}
use Rattle.smv_meaning.specs.Names.{Target, to_nothing, resolve}
use Rattle.smv_names.specs.declared.declared.Declared.{Declared}
use Rattle.smv_names.specs.declared.declared.Declared.TheVariants as declared
use Rattle.smv_names.specs.declared.scopes.Scopes.{Scopes}
use Rattle.smv_names.specs.declared.resolver.Resolver.{Resolver}
use Rattle.smv_names.specs.Tables.{part_entries}
use Rattle.smv_names.specs.Lookups.{declared_at, parameter_at, resolved}
use Rattle.smv_names.specs.Unknown.{unknown_in, unknown_in_all, unknown_in_claim}

abbrev pub is_nothing : Target → Bool
is_nothing to_nothing = true
is_nothing _ = false

abbrev pub is_parameter : Body → List ℕ → Bool
is_parameter b n = list_any (λ f. bytes_eq f.name n) b.params

-- a name alone of a parameter is known, also where its actual stands for nothing: that is told there
abbrev pub is_parameter_alone : Body → List (List ℕ) → Bool
is_parameter_alone b (n ∷ []) = is_parameter b n
is_parameter_alone b _ = false

-- a path of names stands for something in an instance
abbrev pub is_known_in : List Body → Instance → List (List ℕ) → Bool
is_known_in program i names = not (is_nothing (resolve program i.up names)) || is_parameter_alone i.body names

abbrev pub is_variable : Option Declared → Bool
is_variable (Some (declared.Variable k)) = true
is_variable _ = false

-- a name is that of a variable of a module, to which there can be an assignment
abbrev pub is_assignable : Body → List ℕ → Bool
is_assignable b n = not (is_parameter b n) && is_variable (lookup (bytes_eq n) (part_entries 0 0 b.parts))

-- a name to which there is an assignment, if there can be none
abbrev pub unassignable : (List ℕ → Bool) → Part → List TypeFault
unassignable assignable (assign m n p e) = if assignable n then [] else faults.Unknown p (n ∷ []) ∷ []
unassignable assignable _ = []

-- the unknown names of an item, in the order of the text, by what is known and what can be assigned to;
-- an actual parameter stands in the instance that gives it
abbrev pub unknown_in_part : (List (List ℕ) → Bool) → (List ℕ → Bool) → Part → List TypeFault
unknown_in_part known assignable (variable k n p (plain t q)) = []
unknown_in_part known assignable (variable k n p (instance m q es)) = unknown_in_all known (trees es)
unknown_in_part known assignable (define n p e) = unknown_in known e
unknown_in_part known assignable (assign m n p e) = unassignable assignable (assign m n p e) ++ unknown_in known e
unknown_in_part known assignable (constraint s p e) = unknown_in known e
unknown_in_part known assignable (property n p f) = unknown_in_claim known f

-- those of an instance
abbrev pub unknown_at : List Body → Instance → List TypeFault
unknown_at program i = flat_map (unknown_in_part (is_known_in program i) (is_assignable i.body)) i.body.parts

-- those of all instances, in their order
abbrev pub unknown_names : List Body → List TypeFault
unknown_names program = flat_map (unknown_at program) (instances program)

-- what the tables tell of a path of names and of a name
abbrev pub is_parameter_by : Resolver → ℕ → List (List ℕ) → Bool
is_parameter_by r n (m ∷ []) = is_some (parameter_at r.scopes n m)
is_parameter_by r n _ = false

abbrev pub is_known_by : Resolver → ℕ → List (List ℕ) → Bool
is_known_by r n names = is_some (resolved r n names) || is_parameter_by r n names

abbrev pub is_assignable_by : Resolver → ℕ → List ℕ → Bool
is_assignable_by r n m = not (is_some (parameter_at r.scopes n m)) && is_variable (declared_at r.scopes n m)

-- the unknown names of an item by the tables
abbrev pub unknown_by : Resolver → ℕ → Part → List TypeFault
unknown_by r n = unknown_in_part (is_known_by r n) (is_assignable_by r n)

abbrev pub parts_at : List Body → Scopes → ℕ → List Part
parts_at program s n =
    list_of (λ (b : Body). b.parts) (option_and_then (slice_get program) (slice_get s.module_numbers.items n))
