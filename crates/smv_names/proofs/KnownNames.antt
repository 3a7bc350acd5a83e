-- What the tables tell of names is what is known of them by the meaning.
use Rattle.std.proofs.Common.{◌≡◌, ◌+◌, ℕ, Bool, true, false, cond, List, [], ◌∷◌, ◌++◌, length, take, flat_map, refl, ap, sym, ◌∙◌, ◌||◌, ◌&&◌, not}
use Rattle.std.specs.Prelude.{Option, Some, is_some, slice_get, option_and_then}
use Rattle.std.specs.List.{list_any, position_from}
use Rattle.std.specs.Str.{bytes_eq}
use Rattle.std.proofs.Math.Path.{fun_ext}
use Rattle.std.proofs.lemmas.List.{append-nil, take_more}
use Rattle.std.proofs.lemmas.Option.{slice_get_within, get_or_from_slice_get}
use Rattle.std.proofs.lemmas.Iterator.Adapters.{position_from-zero}
use Rattle.std.proofs.lemmas.Grind.{flat_map-append}
use Rattle.smv_tree.specs.Models.{Body, Formal}
use Rattle.smv_meaning.specs.Instances.{Instance, instances, list_of}
use Rattle.smv_meaning.specs.Names.{resolve}
use Rattle.type_fault.specs.declared.fault.TypeFault.{TypeFault}
use Rattle.type_fault.specs.First.{earlier, earliest}
use Rattle.smv_names.specs.declared.resolver.Resolver.{Resolver}
use Rattle.smv_names.specs.Lookups.{declared_at, parameter_at, resolved}
use Rattle.smv_names.specs.UnknownNames.{is_nothing, is_parameter, is_parameter_alone, is_known_in, is_variable, is_assignable, is_parameter_by, is_known_by, is_assignable_by, unknown_in_part, unknown_at, parts_at}
use Rattle.smv_names.specs.Ready.{IsModuleOf, IsReady}
use Rattle.smv_names.proofs.Unknowns.{first_both}
use Rattle.smv_names.proofs.Resolving.{zip_at, by_kind, declared_by, parameter_by, resolves}

found_any : {X : Type 0} (p : X → Bool) (i : ℕ) (xs : List X) → is_some (position_from p i xs) ≡ list_any p xs
found_any p i [] = refl
found_any {X} p i (x ∷ xs) = by_test (p x) (found_any p (i + 1) xs)
  where
    by_test : (b : Bool) → is_some (position_from p (i + 1) xs) ≡ list_any p xs → is_some (cond b (Some i) (position_from p (i + 1) xs)) ≡ (b || list_any p xs)
    by_test true h = refl
    by_test false h = h

-- the first fault of all that each of some things has, with one more
pub faults_on : {X : Type 0} (f : X → List TypeFault) (xs : List X) (n : ℕ) (x : X) (now found next : Option TypeFault) → slice_get xs n ≡ Some x → now ≡ earliest (flat_map f (take n xs)) → found ≡ earliest (f x) → next ≡ earlier now found
    → next ≡ earliest (flat_map f (take (n + 1) xs))
faults_on f xs n x now found next at h k e =
    first_both (flat_map f (take n xs)) (f x) now found next h k e ∙ ap earliest (sym all)
  where
    more : take (n + 1) xs ≡ take n xs ++ x ∷ []
    more = take_more xs n x (slice_get_within xs n x at) ∙ ap (λ y. take n xs ++ y ∷ []) (get_or_from_slice_get xs n x x at)

    all : flat_map f (take (n + 1) xs) ≡ flat_map f (take n xs) ++ f x
    all = ap (flat_map f) more ∙ (flat_map-append f (take n xs) (x ∷ []) ∙ ap (λ ys. flat_map f (take n xs) ++ ys) (append-nil (f x)))

module _ (program : List Body) (r : Resolver) (ready : IsReady program r) (n : ℕ) (i : Instance) (at : slice_get (instances program) n ≡ Some i) where
  parameter_same : (m : List ℕ) → is_some (parameter_at r.scopes n m) ≡ is_parameter i.body m
  parameter_same m =
      ap is_some (parameter_by program r.scopes ready.scopes n i at m ∙ position_from-zero (λ (f : Formal). bytes_eq f.name m) i.body.params)
      ∙ found_any (λ (f : Formal). bytes_eq f.name m) 0 i.body.params

  alone_same : (names : List (List ℕ)) → is_parameter_by r n names ≡ is_parameter_alone i.body names
  alone_same [] = refl
  alone_same (m ∷ []) = parameter_same m
  alone_same (m ∷ (k ∷ ms)) = refl

  something_same : (names : List (List ℕ)) → is_some (resolved r n names) ≡ not (is_nothing (resolve program i.up names))
  something_same names =
      by_kind (λ o t. is_some o ≡ not (is_nothing t)) program r.symbols
      (record { nothing = refl; a_variable = λ a k path. refl; a_define = λ a k up e. refl; a_parameter = λ a k up e. refl; a_instance = λ a j e. refl; a_symbol = λ k m. refl })
      (resolved r n names) (resolve program i.up names)
      (resolves program (length (instances program)) r ready n i (slice_get_within (instances program) n i at) at names)

  pub known_same : is_known_by r n ≡ is_known_in program i
  known_same =
      fun_ext (λ names. ap (λ b. b || is_parameter_by r n names) (something_same names) ∙ ap (λ b. not (is_nothing (resolve program i.up names)) || b) (alone_same names))

  assignable_same : is_assignable_by r n ≡ is_assignable i.body
  assignable_same =
      fun_ext (λ m. ap (λ b. not b && is_variable (declared_at r.scopes n m)) (parameter_same m) ∙ ap (λ o. not (is_parameter i.body m) && is_variable o) (declared_by program r.scopes ready.scopes n i at m))

  parts_same : parts_at program r.scopes n ≡ i.body.parts
  parts_same =
      let number = zip_at (IsModuleOf program) (instances program) r.scopes.module_numbers.items ready.scopes.numbers n i at in
      ap (list_of (λ (b : Body). b.parts)) (ap (option_and_then (slice_get program)) number.1 ∙ number.2)

  pub unknown_same : flat_map (unknown_in_part (is_known_by r n) (is_assignable_by r n)) (parts_at program r.scopes n) ≡ unknown_at program i
  unknown_same =
      ap (flat_map (unknown_in_part (is_known_by r n) (is_assignable_by r n))) parts_same
      ∙ (ap (λ known. flat_map (unknown_in_part known (is_assignable_by r n)) i.body.parts) known_same
      ∙ ap (λ assignable. flat_map (unknown_in_part (is_known_in program i) assignable) i.body.parts) assignable_same)
