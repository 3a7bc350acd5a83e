-- What a path of names stands for, by the definition that it names.
use Rattle.std.proofs.Common.{◌≡◌, ◌<◌, ℕ, Bool, true, false, cond, List, [], ◌∷◌, ◌++◌, length, refl, ap, sym, ◌∙◌, subst, arith, inl, inr}
use Rattle.std.specs.Prelude.{Option, Some, None, codes, find, filter_map, flat_map}
use Rattle.std.specs.List.{list_any}
use Rattle.std.specs.Str.{bytes_eq}
use Rattle.smv_tree.specs.declared.place.Place.{Place}
use Rattle.smv_tree.specs.Trees.{Tree, truth, number, word, name, span, set, cases, choice, one, two, select, next, widen, const, count}
use Rattle.smv_tree.specs.Models.{Body}
use Rattle.smv_meaning.specs.Instances.{Instance, Entry, is_instance, instance_of, part_entries, entries_below, instances, find_body, list_of}
use Rattle.smv_meaning.specs.Names.{Target, to_variable, to_body, to_instance, to_symbol, to_nothing, same_names, instance_at, member_of, actual_target, first_target, follow, resolve_from, resolve}
use Rattle.smv_meaning.specs.Definitions.{Definition, outer, parameters_of, define_named, definition_named, Names}
use Rattle.smv_meaning.proofs.Lists.{find_passes, same_names-true}
use Rattle.smv_meaning.proofs.FirstNames.{undeclared, first_target-picked, picked_parameter, picked_other, parameter_named, without_actuals, parameter_found, define_found, member_define}

-- an instance that is found has the names that were looked for
pub instance_at-up : (all : List Instance) (up : List (List ℕ)) (i : Instance) → instance_at all up ≡ Some i → i.up ≡ up
instance_at-up all up i e = same_names-true i.up up (find_passes (λ j. same_names j.up up) all i e)

-- what an actual of the instance of these names stands for
abbrev pub actual_in : List Body → List (List ℕ) → Tree → Target
actual_in program [] = λ _. to_nothing
actual_in program (n ∷ around) = actual_target around (resolve program around)

pub resolve-from : (program : List Body) (up names : List (List ℕ)) → resolve program up names ≡ resolve_from program (actual_in program up) up names
resolve-from program [] names = refl
resolve-from program (n ∷ around) names = refl

-- where the instance is found, the first name goes first
abbrev pub looked_up : List Body → List (List ℕ) → List ℕ → List (List ℕ) → Option Instance → Target
looked_up program up n rest o = elim o [ Some i ↦ follow (instances program) (first_target program (actual_in program up) i n) rest | None ↦ to_nothing ]

pub resolve-found : (program : List Body) (up : List (List ℕ)) (n : List ℕ) (rest : List (List ℕ)) → resolve program up (n ∷ rest) ≡ looked_up program up n rest (instance_at (instances program) up)
resolve-found program up n rest = resolve-from program up (n ∷ rest)

-- a path goes through its front
follow-last : (all : List Instance) (t : Target) (front : List (List ℕ)) (n : List ℕ) → follow all t (front ++ n ∷ []) ≡ follow all (follow all t front) (n ∷ [])
follow-last all t [] n = refl
follow-last all (to_variable path) (m ∷ front) n = refl
follow-last all (to_body up e) (m ∷ front) n = refl
follow-last all (to_symbol s) (m ∷ front) n = refl
follow-last all to_nothing (m ∷ front) n = refl
follow-last all (to_instance up) (m ∷ front) n = by_instance (instance_at all up) (λ t. follow-last all t front n)
  where
    by_instance : (o : Option Instance) → ((t : Target) → follow all t (front ++ n ∷ []) ≡ follow all (follow all t front) (n ∷ []))
        → elim o as (λ _. Target) [ Some i ↦ follow all (member_of i.path i.up m i.body.parts to_nothing) (front ++ n ∷ []) | None ↦ to_nothing ]
        ≡ follow all (elim o as (λ _. Target) [ Some i ↦ follow all (member_of i.path i.up m i.body.parts to_nothing) front | None ↦ to_nothing ]) (n ∷ [])
    by_instance (Some i) rest = rest (member_of i.path i.up m i.body.parts to_nothing)
    by_instance None rest = refl

pub resolve-last : (program : List Body) (up : List (List ℕ)) (m : List ℕ) (front : List (List ℕ)) (n : List ℕ) → resolve program up (m ∷ (front ++ n ∷ [])) ≡ follow (instances program) (resolve program up (m ∷ front)) (n ∷ [])
resolve-last program up m front n =
    resolve-found program up m (front ++ n ∷ []) ∙ (by_instance (instance_at (instances program) up) ∙ ap (λ t. follow (instances program) t (n ∷ [])) (sym (resolve-found program up m front)))
  where
    by_instance : (o : Option Instance) → looked_up program up m (front ++ n ∷ []) o ≡ follow (instances program) (looked_up program up m front o) (n ∷ [])
    by_instance (Some i) = follow-last (instances program) (first_target program (actual_in program up) i m) front n
    by_instance None = refl

-- what one further name stands for behind an instance
pub follow-one : (all : List Instance) (up : List (List ℕ)) (n : List ℕ) (i : Instance) → instance_at all up ≡ Some i → follow all (to_instance up) (n ∷ []) ≡ member_of i.path i.up n i.body.parts to_nothing
follow-one all up n i e = ap (λ o. elim o as (λ _. Target) [ Some j ↦ member_of j.path j.up n j.body.parts to_nothing | None ↦ to_nothing ]) e

-- an actual is a name, which stands for what it stands for around, or a body
pub data ActualCase (e : Tree) : Type 0 where
  is_name : (p : Place) (names : List (List ℕ)) → e ≡ name p names → ActualCase e
  is_body : ((around : List (List ℕ)) (f : List (List ℕ) → Target) → actual_target around f e ≡ to_body around e) → ActualCase e

actual_case : (e : Tree) → ActualCase e
actual_case (name p names) = is_name p names refl
actual_case (truth p b) = is_body (λ around f. refl)
actual_case (number p n) = is_body (λ around f. refl)
actual_case (word p w) = is_body (λ around f. refl)
actual_case (span p low high) = is_body (λ around f. refl)
actual_case (set p es) = is_body (λ around f. refl)
actual_case (cases p bs) = is_body (λ around f. refl)
actual_case (choice p c a b) = is_body (λ around f. refl)
actual_case (one p o a) = is_body (λ around f. refl)
actual_case (two p o a b) = is_body (λ around f. refl)
actual_case (select p a high low) = is_body (λ around f. refl)
actual_case (next p a) = is_body (λ around f. refl)
actual_case (widen p resize a n) = is_body (λ around f. refl)
actual_case (const p signed v n) = is_body (λ around f. refl)
actual_case (count p es) = is_body (λ around f. refl)

-- what the main module brings
abbrev main_entries : List Body → ℕ → Option Body → List Entry
main_entries program depth o = list_of (λ body. is_instance (record { path = []; up = []; body = body; actuals = [] }) ∷ flat_map (part_entries (entries_below depth program) [] []) body.parts) o

-- the main instance comes first, and has no actuals
main_has_no_actuals : (program : List Body) (i : Instance) → instance_at (instances program) [] ≡ Some i → i.actuals ≡ []
main_has_no_actuals [] i e = absurd (cc)
main_has_no_actuals (b ∷ bs) i e = by_module (find_body (codes "main") (b ∷ bs)) e
  where
    by_module : (o : Option Body) → instance_at (filter_map instance_of (main_entries (b ∷ bs) (length bs) o)) [] ≡ Some i → i.actuals ≡ []
    by_module None e = absurd (cc)
    by_module (Some m) e = let same : record { path = []; up = []; body = m; actuals = [] } ≡ i = cc in sym (ap (λ j. j.actuals) same)

-- what a path of names stands for that names a definition: its body, or, where that is a mere name, what this name stands for further out
pub data Stands (program : List Body) (up names : List (List ℕ)) (d : Definition) : Type 0 where
  by_body : resolve program up names ≡ to_body d.around d.body → Stands program up names d
  by_name : (p : Place) (other : List (List ℕ)) → d.body ≡ name p other → resolve program up names ≡ resolve program d.around other → length d.around < length up → Stands program up names d

module _ (program : List Body) (up : List (List ℕ)) (d : Definition) (i : Instance) (at_up : instance_at (instances program) up ≡ Some i) where
  resolve-own : resolve program up (d.name ∷ []) ≡ first_target program (actual_in program up) i d.name
  resolve-own = resolve-found program up d.name [] ∙ ap (looked_up program up d.name []) at_up

module _ (program : List Body) (d : Definition) (i : Instance) where
  stands_parameter : (up : List (List ℕ)) → instance_at (instances program) up ≡ Some i → find (λ e. bytes_eq e.name d.name) (parameters_of i.up i.body.params i.actuals) ≡ Some d → Stands program up (d.name ∷ []) d
  stands_parameter [] at_up found =
      let none : i.actuals ≡ [] = main_has_no_actuals program i at_up in
      let no : parameter_named i.up d.name i.body.params [] ≡ Some d = subst (λ es. parameter_named i.up d.name i.body.params es ≡ Some d) none found in
      let nothing : parameter_named i.up d.name i.body.params [] ≡ None = without_actuals i.up d.name i.body.params in
      absurd (cc)
  stands_parameter (m ∷ around) at_up found =
      let facts = parameter_found i.up d.name i.body.params i.actuals d found in
      let same : i.up ≡ m ∷ around = instance_at-up (instances program) (m ∷ around) i at_up in
      let out : d.around ≡ around = facts.stands ∙ ap outer same in
      let target : resolve program (m ∷ around) (d.name ∷ []) ≡ actual_target around (resolve program around) d.body =
      resolve-own program (m ∷ around) d i at_up
      ∙ (first_target-picked program (actual_in program (m ∷ around)) i d.name
      ∙ picked_parameter (actual_in program (m ∷ around)) i.up d.name i.body.params i.actuals (member_of i.path i.up d.name i.body.parts (undeclared program i d.name)) d found) in
      by_case (actual_case d.body) out target
    where
      by_case : ActualCase d.body → d.around ≡ around → resolve program (m ∷ around) (d.name ∷ []) ≡ actual_target around (resolve program around) d.body → Stands program (m ∷ around) (d.name ∷ []) d
      by_case (is_name p other e) out target =
          by_name p other e (target ∙ (ap (actual_target around (resolve program around)) e ∙ ap (λ a. resolve program a other) (sym out))) (rw out (omega arith))
      by_case (is_body f) out target = by_body (target ∙ (f around (resolve program around) ∙ ap (λ a. to_body a d.body) (sym out)))

  stands_define : (up : List (List ℕ)) → instance_at (instances program) up ≡ Some i → list_any (λ f. bytes_eq f.name d.name) i.body.params ≡ false → define_named i d.name ≡ Some d → Stands program up (d.name ∷ []) d
  stands_define up at_up none found =
      let facts = define_found i.up d.name i.body.parts d found in
      by_body
      (resolve-own program up d i at_up
      ∙ (first_target-picked program (actual_in program up) i d.name
      ∙ (picked_other (actual_in program up) d.name i.body.params i.actuals (member_of i.path i.up d.name i.body.parts (undeclared program i d.name)) none
      ∙ (member_define i.path i.up d.name i.body.parts (undeclared program i d.name) d found ∙ ap (λ a. to_body a d.body) (sym facts.stands)))))

  stands_own : (up : List (List ℕ)) → instance_at (instances program) up ≡ Some i → definition_named i d.name ≡ Some d → Stands program up (d.name ∷ []) d
  stands_own up at_up found = by_test (list_any (λ f. bytes_eq f.name d.name) i.body.params) refl found
    where
      by_test : (b : Bool) → list_any (λ f. bytes_eq f.name d.name) i.body.params ≡ b → cond b (find (λ e. bytes_eq e.name d.name) (parameters_of i.up i.body.params i.actuals)) (define_named i d.name) ≡ Some d → Stands program up (d.name ∷ []) d
      by_test true h found = stands_parameter up at_up found
      by_test false h found = stands_define up at_up h found

  stands_behind : (up front : List (List ℕ)) → resolve program up front ≡ to_instance d.up → instance_at (instances program) d.up ≡ Some i → define_named i d.name ≡ Some d → Stands program up (front ++ d.name ∷ []) d
  stands_behind up [] at_front at_up found =
      let nothing : resolve program up [] ≡ to_nothing = resolve-from program up [] in
      absurd (cc)
  stands_behind up (m ∷ front) at_front at_up found =
      let facts = define_found i.up d.name i.body.parts d found in
      by_body
      (resolve-last program up m front d.name
      ∙ (ap (λ t. follow (instances program) t (d.name ∷ [])) at_front
      ∙ (follow-one (instances program) d.up d.name i at_up
      ∙ (member_define i.path i.up d.name i.body.parts to_nothing d found ∙ ap (λ a. to_body a d.body) (sym facts.stands)))))

pub named_stands : (program : List Body) (up names : List (List ℕ)) (d : Definition) → Names program up names d → Stands program up names d
named_stands program up names d (inl o) = subst (λ y. Stands program up y d) (sym o.alone) (stands_own program d o.instance up o.at_up o.defined)
named_stands program up names d (inr b) = subst (λ y. Stands program up y d) (sym b.last) (stands_behind program d b.instance up b.front b.at_front b.at_up b.defined)
