-- Each path of names names a definition or stands for no body, and definitions that are named are those of the program.
use Rattle.std.proofs.Common.{◌≡◌, ℕ, Bool, true, false, cond, List, [], ◌∷◌, ◌++◌, refl, ap, sym, ◌∙◌, subst, inl, inr}
use Rattle.std.specs.Prelude.{Contains, Option, Some, None, ◌⊎◌, find, filter_map, option_and_then}
use Rattle.std.specs.List.{list_any}
use Rattle.std.specs.Str.{bytes_eq}
use Rattle.std.proofs.lemmas.List.Elements.{Contains-append_left, Contains-append_right}
use Rattle.smv_tree.specs.Models.{Body, Part}
use Rattle.smv_meaning.specs.Instances.{Instance, instances}
use Rattle.smv_meaning.specs.Names.{Target, to_variable, to_body, to_instance, to_symbol, to_nothing, same_names, instance_at, member_of, first_target, follow, resolve}
use Rattle.smv_meaning.specs.Definitions.{Definition, parameters_of, define_of, declares, definitions_of, definitions, define_named, definition_named, Names}
use Rattle.smv_meaning.proofs.Lists.{contains_flat_map, contains_filter_map, find_contained}
use Rattle.smv_meaning.proofs.FirstNames.{IsNoBody, undeclared, undeclared_is_no_body, first_target-picked, picked, picked_other, picked_missing, parameter_named, parameter_found, define_found, member_no_body}
use Rattle.smv_meaning.proofs.NamedDefinitions.{instance_at-up, actual_in, resolve-from, resolve-found, resolve-last, follow-one, looked_up}

-- a definition that is found is of this instance, and has this name
record IsOf (i : Instance) (n : List ℕ) (d : Definition) : Type 0 where
  of : d.up ≡ i.up
  named : d.name ≡ n

definition_found : (i : Instance) (n : List ℕ) (d : Definition) → definition_named i n ≡ Some d → IsOf i n d
definition_found i n d e = by_test (list_any (λ f. bytes_eq f.name n) i.body.params) e
  where
    by_test : (b : Bool) → cond b (parameter_named i.up n i.body.params i.actuals) (define_named i n) ≡ Some d → IsOf i n d
    by_test true e = let f = parameter_found i.up n i.body.params i.actuals d e in record { of = f.of; named = f.named }
    by_test false e = let f = define_found i.up n i.body.parts d e in record { of = f.of; named = f.named }

-- where an instance has no definition of a name, the name stands for no body in it
first_no_body : (program : List Body) (up : List (List ℕ)) (i : Instance) (n : List ℕ) → definition_named i n ≡ None → IsNoBody (first_target program (actual_in program up) i n)
first_no_body program up i n e = subst IsNoBody (sym (first_target-picked program (actual_in program up) i n)) (by_test (list_any (λ f. bytes_eq f.name n) i.body.params) refl e)
  where
    other : Target
    other = member_of i.path i.up n i.body.parts (undeclared program i n)

    by_test : (b : Bool) → list_any (λ f. bytes_eq f.name n) i.body.params ≡ b → cond b (parameter_named i.up n i.body.params i.actuals) (define_named i n) ≡ None → IsNoBody (picked (actual_in program up) n i.body.params i.actuals other)
    by_test true h e = picked_missing (actual_in program up) i.up n i.body.params i.actuals other h e
    by_test false h e =
        subst IsNoBody (sym (picked_other (actual_in program up) n i.body.params i.actuals other h))
        (member_no_body i.path i.up n i.body.parts (undeclared program i n) e (undeclared_is_no_body program i n))

-- the list of these without the last, and the last
with_last : (x : List ℕ) (xs : List (List ℕ)) → (front : List (List ℕ)) × (l : List ℕ) × (x ∷ xs ≡ front ++ l ∷ [])
with_last x [] = ([], x, refl)
with_last x (y ∷ ys) = let s = with_last y ys in (x ∷ s.0, s.1, ap (λ zs. x ∷ zs) s.2)

abbrev pub NamedOrNot : List Body → List (List ℕ) → List (List ℕ) → Type 0
NamedOrNot program up names = ((d : Definition) × Names program up names d) ⊎ IsNoBody (resolve program up names)

module _ (program : List Body) (up : List (List ℕ)) where
  alone_or_not : (n : List ℕ) → NamedOrNot program up (n ∷ [])
  alone_or_not n = by_instance (instance_at (instances program) up) refl
    where
      by_definition : (i : Instance) → instance_at (instances program) up ≡ Some i → (o : Option Definition) → definition_named i n ≡ o → NamedOrNot program up (n ∷ [])
      by_definition i at_up (Some d) e =
          let f = definition_found i n d e in
          inl (d, inl (record { instance = i; at_up = at_up; alone = ap (λ m. m ∷ []) (sym f.named); defined = ap (definition_named i) f.named ∙ e }))
      by_definition i at_up None e = inr (subst IsNoBody (sym (resolve-found program up n [] ∙ ap (looked_up program up n []) at_up)) (first_no_body program up i n e))

      by_instance : (o : Option Instance) → instance_at (instances program) up ≡ o → NamedOrNot program up (n ∷ [])
      by_instance (Some i) at_up = by_definition i at_up (definition_named i n) refl
      by_instance None at_up = inr (subst IsNoBody (sym (resolve-found program up n [] ∙ ap (looked_up program up n []) at_up)) tt)

  behind_or_not : (m : List ℕ) (front : List (List ℕ)) (n : List ℕ) → NamedOrNot program up (m ∷ (front ++ n ∷ []))
  behind_or_not m front n = by_target (resolve program up (m ∷ front)) refl
    where
      goes : (t : Target) → resolve program up (m ∷ front) ≡ t → resolve program up (m ∷ (front ++ n ∷ [])) ≡ follow (instances program) t (n ∷ [])
      goes t e = resolve-last program up m front n ∙ ap (λ t. follow (instances program) t (n ∷ [])) e

      by_definition : (u : List (List ℕ)) (i : Instance) → resolve program up (m ∷ front) ≡ to_instance u → instance_at (instances program) u ≡ Some i → (o : Option Definition) → define_named i n ≡ o → NamedOrNot program up (m ∷ (front ++ n ∷ []))
      by_definition u i e at_u (Some d) h =
          let f = define_found i.up n i.body.parts d h in
          let same : d.up ≡ u = f.of ∙ instance_at-up (instances program) u i at_u in
          inl (
            d,
            inr (record {
              instance = i;
              front = m ∷ front;
              at_front = e ∙ ap to_instance (sym same);
              at_up = ap (instance_at (instances program)) same ∙ at_u;
              last = ap (λ l. (m ∷ front) ++ l ∷ []) (sym f.named);
              defined = ap (define_named i) f.named ∙ h;
            }),
          )
      by_definition u i e at_u None h = inr (subst IsNoBody (sym (goes (to_instance u) e ∙ follow-one (instances program) u n i at_u)) (member_no_body i.path i.up n i.body.parts to_nothing h tt))

      by_instance : (u : List (List ℕ)) → resolve program up (m ∷ front) ≡ to_instance u → (o : Option Instance) → instance_at (instances program) u ≡ o → NamedOrNot program up (m ∷ (front ++ n ∷ []))
      by_instance u e (Some i) at_u = by_definition u i e at_u (define_named i n) refl
      by_instance u e None at_u = inr (subst IsNoBody (sym (goes (to_instance u) e ∙ ap (λ o. elim o as (λ _. Target) [ Some j ↦ member_of j.path j.up n j.body.parts to_nothing | None ↦ to_nothing ]) at_u)) tt)

      by_target : (t : Target) → resolve program up (m ∷ front) ≡ t → NamedOrNot program up (m ∷ (front ++ n ∷ []))
      by_target (to_instance u) e = by_instance u e (instance_at (instances program) u) refl
      by_target (to_variable path) e = inr (subst IsNoBody (sym (goes (to_variable path) e)) tt)
      by_target (to_body u x) e = inr (subst IsNoBody (sym (goes (to_body u x) e)) tt)
      by_target (to_symbol s) e = inr (subst IsNoBody (sym (goes (to_symbol s) e)) tt)
      by_target to_nothing e = inr (subst IsNoBody (sym (goes to_nothing e)) tt)

  -- a path of names names a definition, or stands for no body
  pub named_or_not : (names : List (List ℕ)) → NamedOrNot program up names
  named_or_not [] = inr (subst IsNoBody (sym (resolve-from program up [])) tt)
  named_or_not (n ∷ []) = alone_or_not n
  named_or_not (n ∷ (m ∷ rest)) =
      let s = with_last m rest in
      subst (λ names. NamedOrNot program up (n ∷ names)) (sym s.2) (behind_or_not n s.0 s.1)

-- the definition of a name in an instance is one of the instance
define_listed : (i : Instance) (n : List ℕ) (d : Definition) → define_named i n ≡ Some d → Contains (definitions_of i) d
define_listed i n d e = by_part (find (declares n) i.body.parts) refl e
  where
    by_part : (o : Option Part) → find (declares n) i.body.parts ≡ o → option_and_then (define_of i.up) o ≡ Some d → Contains (definitions_of i) d
    by_part None f e = absurd (cc)
    by_part (Some part) f e =
        Contains-append_right (parameters_of i.up i.body.params i.actuals) (filter_map (define_of i.up) i.body.parts) d
        (contains_filter_map (define_of i.up) i.body.parts part d (find_contained (declares n) i.body.parts part f) e)

definition_listed : (i : Instance) (n : List ℕ) (d : Definition) → definition_named i n ≡ Some d → Contains (definitions_of i) d
definition_listed i n d e = by_test (list_any (λ f. bytes_eq f.name n) i.body.params) e
  where
    by_test : (b : Bool) → cond b (parameter_named i.up n i.body.params i.actuals) (define_named i n) ≡ Some d → Contains (definitions_of i) d
    by_test true e = Contains-append_left (parameters_of i.up i.body.params i.actuals) (filter_map (define_of i.up) i.body.parts) d (find_contained (λ d. bytes_eq d.name n) (parameters_of i.up i.body.params i.actuals) d e)
    by_test false e = define_listed i n d e

-- a definition that is named is one of the program
pub named_is_listed : (program : List Body) (up names : List (List ℕ)) (d : Definition) → Names program up names d → Contains (definitions program) d
named_is_listed program up names d (inl o) =
    contains_flat_map definitions_of (instances program) o.instance d (find_contained (λ j. same_names j.up up) (instances program) o.instance o.at_up) (definition_listed o.instance d.name d o.defined)
named_is_listed program up names d (inr b) =
    contains_flat_map definitions_of (instances program) b.instance d (find_contained (λ j. same_names j.up d.up) (instances program) b.instance b.at_up) (define_listed b.instance d.name d b.defined)
