-- The values of a flat expression on a flat model are those of the expression that it stands for.
use Rattle.std.proofs.Common.{◌≡◌, ℕ, List, [], ◌∷◌, ◌++◌, map, refl, ap, sym, ◌∙◌, subst, append_assoc}
use Rattle.std.specs.Prelude.{unwrap_or}
use Rattle.std.proofs.lemmas.List.{append-nil}
use Rattle.std.proofs.Math.Logic.{◌↔◌}
use Rattle.smv_tree.specs.Trees.{Tree}
use Rattle.smv_tree.specs.Models.{Body}
use Rattle.smv_tree.specs.declared.value.Value.{Value}
use Rattle.smv_meaning.specs.Instances.{variables}
use Rattle.smv_meaning.specs.Values.{Naming, Snapshot, IsNaming, values, variable_values, target_values}
use Rattle.smv_meaning.specs.Runs.{HasValues}
use Rattle.smv_meaning.specs.Definitions.{Definition, Names}
use Rattle.smv_meaning.specs.FlatTrees.{Flat, Numbers, eval}
use Rattle.smv_meaning.specs.FlatLines.{to_slot, to_def, to_name, Fits, AreLined, IsLine, slot_values, def_values, numbers_at}
use Rattle.smv_meaning.proofs.Lists.{slice_get-map}
use Rattle.smv_meaning.proofs.Settling.{naming_there}
use Rattle.smv_meaning.proofs.NamedDefinitions.{Stands, by_body, by_name, named_stands}
use Rattle.smv_meaning.proofs.Orders.{lined_is_settled}
use Rattle.smv_meaning.proofs.FlatFits.{Tells, fits_eval}

module _ (program : List Body) (m : Snapshot) (now : Naming) (naming : IsNaming program m now) where
  -- what names a definition has the values of its body
  named_values : (up names : List (List ℕ)) (d : Definition) → Names program up names d → now up names ≡ values now now d.around d.body
  named_values up names d named = by_case (named_stands program up names d named)
    where
      by_case : Stands program up names d → now up names ≡ values now now d.around d.body
      by_case (by_body e) = naming up names ∙ ap (target_values (variables program) m now) e
      by_case (by_name p other b r l) =
          naming up names ∙ (ap (target_values (variables program) m now) r ∙ (sym (naming d.around other) ∙ ap (values now now d.around) (sym b)))

  -- the values of the body of a definition
  abbrev body_values : Definition → List Value
  body_values d = values now now d.around d.body

  -- the numbers of these definitions
  abbrev numbers_of : List Definition → Numbers
  numbers_of defs = record { slots = slot_values program m; defs = map body_values defs }

  tells_now : (defs : List Definition) (up : List (List ℕ)) → Tells program defs up now (numbers_of defs)
  tells_now defs up names _ (to_slot k v at_k e) =
      naming up names
      ∙ (ap (target_values (variables program) m now) e
      ∙ sym (ap (λ o. unwrap_or o []) (slice_get-map (λ w. variable_values (variables program) m w.path) (variables program) k v at_k)))
  tells_now defs up names _ (to_name n e) = naming up names ∙ ap (target_values (variables program) m now) e
  tells_now defs up names _ (to_def k d at_k named) = named_values up names d named ∙ sym (ap (λ o. unwrap_or o []) (slice_get-map body_values defs k d at_k))

  map_push : (before : List Definition) (d : Definition) → map body_values (before ++ d ∷ []) ≡ map body_values before ++ body_values d ∷ []
  map_push [] d = refl
  map_push (e ∷ before) d = ap (λ vs. body_values e ∷ vs) (map_push before d)

  -- the values along a line are those of the bodies
  lined_values : (before rest : List Definition) (fs : List Flat) → AreLined program before rest fs → def_values (slot_values program m) (map body_values before) fs ≡ map body_values (before ++ rest)
  lined_values before [] [] o = ap (map body_values) (sym (append-nil before))
  lined_values before [] (f ∷ fs) o = absurd o
  lined_values before (d ∷ ds) [] o = absurd o
  lined_values before (d ∷ ds) (f ∷ fs) o =
      let here : body_values d ≡ eval (numbers_of before) (numbers_of before) f =
      fits_eval program before d.around now now (numbers_of before) (numbers_of before) (tells_now before d.around) (tells_now before d.around) d.body f o.0 in
      ap (λ v. def_values (slot_values program m) (map body_values before ++ v ∷ []) fs) (sym here)
      ∙ (ap (λ known. def_values (slot_values program m) known fs) (sym (map_push before d))
      ∙ (lined_values (before ++ d ∷ []) ds fs o.1 ∙ ap (map body_values) (append_assoc before (d ∷ []) ds)))

  -- so the numbers at the moment tell the naming
  line_tells : (defs : List Definition) (bodies : List Flat) → IsLine program defs bodies → (up : List (List ℕ)) → Tells program defs up now (numbers_at program bodies m)
  line_tells defs bodies l up =
      subst (λ known. Tells program defs up now (record { slots = slot_values program m; defs = known })) (sym (lined_values [] defs bodies l.lined)) (tells_now defs up)

module _ (program : List Body) (defs : List Definition) (bodies : List Flat) (m n : Snapshot) (up : List (List ℕ)) (e : Tree) (f : Flat) (vs : List Value) (line : IsLine program defs bodies) (fits : Fits program defs up e f) where
  values_at : (now later : Naming) → IsNaming program m now → IsNaming program n later → values now later up e ≡ eval (numbers_at program bodies m) (numbers_at program bodies n) f
  values_at now later g h =
      fits_eval program defs up now later (numbers_at program bodies m) (numbers_at program bodies n) (line_tells program m now g defs bodies line up) (line_tells program n later h defs bodies line up) e f fits

  pub flat_values : HasValues program m n up e vs ↔ (vs ≡ eval (numbers_at program bodies m) (numbers_at program bodies n) f)
  flat_values = (from, to)
    where
      from : HasValues program m n up e vs → vs ≡ eval (numbers_at program bodies m) (numbers_at program bodies n) f
      from (now, later, g, h, p) = sym p ∙ values_at now later g h

      to : vs ≡ eval (numbers_at program bodies m) (numbers_at program bodies n) f → HasValues program m n up e vs
      to same =
          let settled = lined_is_settled program defs bodies line in
          let a = naming_there program m settled in
          let b = naming_there program n settled in
          (a.0, b.0, a.1, b.1, values_at a.0 b.0 a.1 b.1 ∙ sym same)
