-- What is found for a path of names by the tables of a program is what the path stands for.
use Rattle.std.proofs.Common.{◌≡◌, ◌<◌, ℕ, zero, suc, ◌+◌, Bool, true, false, cond, List, [], ◌∷◌, ◌++◌, length, refl, ap, sym, ◌∙◌, subst, arith, position, ◌||◌}
use Rattle.std.specs.Prelude.{Option, Some, None, codes, find, if◌then◌else◌, slice_get, option_map, option_and_then}
use Rattle.std.specs.List.{AllZip, list_any, position_from}
use Rattle.std.specs.Map.{lookup}
use Rattle.std.specs.Str.{bytes_eq}
use Rattle.std.proofs.lemmas.Bool.{false≢true}
use Rattle.std.proofs.lemmas.Slice.Eq.{bytes_eq-Decides}
use Rattle.std.proofs.lemmas.List.Quantifiers.{position-Some}
use Rattle.std.proofs.lemmas.Iterator.Adapters.{position_from-zero}
use Rattle.smv_tree.specs.Trees.{Tree}
use Rattle.smv_tree.specs.Models.{Body, Part, Formal, variable, define, assign, constraint, property, plain, instance}
use Rattle.smv_meaning.specs.Instances.{Instance, instances}
use Rattle.smv_meaning.specs.Names.{Target, to_variable, to_body, to_instance, to_symbol, to_nothing, same_names, instance_at, or_else, member_of, symbol_of, first_target as first_meant, follow, resolve_from, resolve}
use Rattle.smv_meaning.specs.Definitions.{outer}
use Rattle.smv_meaning.proofs.Lists.{slice_get-contained, same_names-true}
use Rattle.smv_graph.proofs.Numbering.{bytes_eq-sym}
use Rattle.smv_names.specs.declared.declared.Declared.{Declared}
use Rattle.smv_names.specs.declared.declared.Declared.TheVariants as declared
use Rattle.smv_names.specs.declared.target.Target.{Target as Numbered}
use Rattle.smv_names.specs.declared.target.Target.TheVariants as numbered
use Rattle.smv_names.specs.declared.scopes.ModuleNames.{ModuleNames}
use Rattle.smv_names.specs.declared.scopes.Scopes.{Scopes}
use Rattle.smv_names.specs.declared.resolver.Resolver.{Resolver}
use Rattle.smv_names.specs.Tables.{part_entries}
use Rattle.smv_names.specs.Members.{Tells}
use Rattle.smv_names.specs.Targets.{variable_of, define_of, meant}
use Rattle.smv_names.specs.Lookups.{names_at, declared_at, parameter_at, item_target, target_behind, actual_at, outside_target, first_target, further_target, resolved}
use Rattle.smv_names.specs.Ready.{AreNamesOf, IsModuleOf, AreScopes, actual_in, IsReadyBelow}
use Rattle.smv_names.proofs.Members.{told}

pub zip_at : {A B : Type 0} (Q : A → B → Type 0) (xs : List A) (ys : List B) → AllZip Q xs ys → (k : ℕ) (x : A) → slice_get xs k ≡ Some x → (y : B) × (slice_get ys k ≡ Some y) × Q x y
zip_at Q [] ys h k x e = absurd (cc)
zip_at Q (x ∷ xs) [] h k y e = absurd h
zip_at Q (x ∷ xs) (y ∷ ys) h zero z e = let same : x ≡ z = cc in (y, refl, subst (λ w. Q w y) same h.0)
zip_at Q (x ∷ xs) (y ∷ ys) h (suc k) z e = zip_at Q xs ys h.1 k z e

-- the only element that passes is found
only_found : {A : Type 0} (p : A → Bool) (xs : List A) (n : ℕ) (x : A) → slice_get xs n ≡ Some x → p x ≡ true → ((a : ℕ) (y : A) → slice_get xs a ≡ Some y → p y ≡ true → y ≡ x) → find p xs ≡ Some x
only_found p [] n x e h only = absurd (cc)
only_found {A} p (y ∷ ys) n x e h only = by_test (p y) refl (λ k f. only_found p ys k x f h (λ a z s t. only (suc a) z s t))
  where
    later : (k : ℕ) → slice_get (y ∷ ys) k ≡ Some x → p y ≡ false → ((j : ℕ) → slice_get ys j ≡ Some x → find p ys ≡ Some x) → find p ys ≡ Some x
    later zero s f rest = absurd (false≢true (sym f ∙ (let same : y ≡ x = cc in ap p same ∙ h)))
    later (suc k) s f rest = rest k s

    by_test : (t : Bool) → p y ≡ t → ((j : ℕ) → slice_get ys j ≡ Some x → find p ys ≡ Some x) → cond t (Some y) (find p ys) ≡ Some x
    by_test true f rest = ap Some (only 0 y refl f)
    by_test false f rest = later n e f rest

same_names-refl : (xs : List (List ℕ)) → same_names xs xs ≡ true
same_names-refl [] = refl
same_names-refl (x ∷ xs) = ap (λ b. cond b (same_names xs xs) false) ((bytes_eq-Decides x x).1 refl) ∙ same_names-refl xs

pub in_list : {A : Type 0} (xs : List A) (k : ℕ) → k < length xs → (x : A) × (slice_get xs k ≡ Some x)
in_list [] k l = absurd (omega arith)
in_list (x ∷ xs) zero l = (x, refl)
in_list (x ∷ xs) (suc k) l = in_list xs k (omega arith)

-- the symbols that stand at the place at which a name is found, from this one on
symbol_from : (m : List ℕ) (i : ℕ) (all xs : List (List ℕ)) → ((d : ℕ) → slice_get xs d ≡ slice_get all (i + d))
    → elim (position_from (bytes_eq m) i xs) [ Some k ↦ option_map to_symbol (slice_get all k) | None ↦ Some to_nothing ] ≡ Some (if list_any (bytes_eq m) xs then to_symbol m else to_nothing)
symbol_from m i all [] h = refl
symbol_from m i all (x ∷ xs) h = by_test (bytes_eq m x) refl (symbol_from m (i + 1) all xs (λ d. h (suc d) ∙ ap (slice_get all) (omega arith)))
  where
    by_test : (b : Bool) → bytes_eq m x ≡ b
        → elim (position_from (bytes_eq m) (i + 1) xs) [ Some k ↦ option_map to_symbol (slice_get all k) | None ↦ Some to_nothing ] ≡ Some (if list_any (bytes_eq m) xs then to_symbol m else to_nothing)
        → elim (cond b (Some i) (position_from (bytes_eq m) (i + 1) xs)) [ Some k ↦ option_map to_symbol (slice_get all k) | None ↦ Some to_nothing ] ≡ Some (if b || list_any (bytes_eq m) xs then to_symbol m else to_nothing)
    by_test true e rest =
        ap (option_map to_symbol) (ap (slice_get all) (omega arith) ∙ sym (h 0)) ∙ ap (λ y. Some (to_symbol y)) (sym ((bytes_eq-Decides m x).0 e))
    by_test false e rest = rest

then_is : {X G : Type 0} (f : X → Option Target) (o : Option X) (u : Target) → ((x : X) → f x ≡ Some u → G) → option_and_then f o ≡ Some u → G
then_is f None u h e = absurd (cc)
then_is f (Some x) u h e = h x e

map_is : {X G : Type 0} (f : X → Target) (o : Option X) (u : Target) → ((x : X) → o ≡ Some x → Some (f x) ≡ Some u → G) → option_map f o ≡ Some u → G
map_is f None u h e = absurd (cc)
map_is f (Some x) u h e = h x refl e

-- what holds of each kind of target and of what it stands for
module _ (P : Option Numbered → Target → Type 0) (program : List Body) (symbols : List (List ℕ)) where
  pub record OfEachKind : Type 0 where
    pub nothing : P None to_nothing
    pub a_variable : (n k : ℕ) (path : List (List ℕ)) → P (Some (numbered.Variable n k)) (to_variable path)
    pub a_define : (n k : ℕ) (up : List (List ℕ)) (e : Tree) → P (Some (numbered.Define n k)) (to_body up e)
    pub a_parameter : (n k : ℕ) (up : List (List ℕ)) (e : Tree) → P (Some (numbered.Parameter n k)) (to_body up e)
    pub a_instance : (n : ℕ) (i : Instance) → slice_get (instances program) n ≡ Some i → P (Some (numbered.Instance n)) (to_instance i.up)
    pub a_symbol : (k : ℕ) (m : List ℕ) → P (Some (numbered.Symbol k)) (to_symbol m)

  module _ (each : OfEachKind) where
    some_is : (o : Option Numbered) (t u : Target) → P o t → Some t ≡ Some u → P o u
    some_is o t u h e = let same : t ≡ u = cc in subst (P o) same h

    variable_is : (n k : ℕ) (i : Instance) (part : Part) (u : Target) → variable_of i part ≡ Some u → P (Some (numbered.Variable n k)) u
    variable_is n k i (variable kind m p (plain type q)) u e =
        some_is (Some (numbered.Variable n k)) (to_variable (i.path ++ m ∷ [])) u (each.a_variable n k (i.path ++ m ∷ [])) e
    variable_is n k i (variable kind m p (instance b q es)) u e = absurd (cc)
    variable_is n k i (define m p x) u e = absurd (cc)
    variable_is n k i (assign o m p x) u e = absurd (cc)
    variable_is n k i (constraint o p x) u e = absurd (cc)
    variable_is n k i (property o p x) u e = absurd (cc)

    define_is : (n k : ℕ) (i : Instance) (part : Part) (u : Target) → define_of i part ≡ Some u → P (Some (numbered.Define n k)) u
    define_is n k i (variable kind m p t) u e = absurd (cc)
    define_is n k i (define m p x) u e = some_is (Some (numbered.Define n k)) (to_body i.up x) u (each.a_define n k i.up x) e
    define_is n k i (assign o m p x) u e = absurd (cc)
    define_is n k i (constraint o p x) u e = absurd (cc)
    define_is n k i (property o p x) u e = absurd (cc)

    pub by_kind : (o : Option Numbered) (u : Target) → meant program symbols o ≡ Some u → P o u
    by_kind None u e = some_is None to_nothing u each.nothing e
    by_kind (Some (numbered.Variable n k)) u e =
        then_is (λ (i : Instance). option_and_then (variable_of i) (slice_get i.body.parts k)) (slice_get (instances program) n) u (λ i.
        then_is (variable_of i) (slice_get i.body.parts k) u (λ part. variable_is n k i part u)) e
    by_kind (Some (numbered.Define n k)) u e =
        then_is (λ (i : Instance). option_and_then (define_of i) (slice_get i.body.parts k)) (slice_get (instances program) n) u (λ i.
        then_is (define_of i) (slice_get i.body.parts k) u (λ part. define_is n k i part u)) e
    by_kind (Some (numbered.Parameter n k)) u e =
        then_is (λ (i : Instance). option_map (to_body (outer i.up)) (slice_get i.actuals k)) (slice_get (instances program) n) u (λ i.
        map_is (to_body (outer i.up)) (slice_get i.actuals k) u (λ x a.
        some_is (Some (numbered.Parameter n k)) (to_body (outer i.up) x) u (each.a_parameter n k (outer i.up) x))) e
    by_kind (Some (numbered.Instance n)) u e =
        map_is (λ (i : Instance). to_instance i.up) (slice_get (instances program) n) u (λ i a. some_is (Some (numbered.Instance n)) (to_instance i.up) u (each.a_instance n i a)) e
    by_kind (Some (numbered.Symbol k)) u e =
        map_is to_symbol (slice_get symbols k) u (λ m a. some_is (Some (numbered.Symbol k)) (to_symbol m) u (each.a_symbol k m)) e

-- the names of the module of an instance
module _ (program : List Body) (s : Scopes) (are : AreScopes program s) (n : ℕ) (i : Instance) (at : slice_get (instances program) n ≡ Some i) where
  names : (ns : ModuleNames) × (names_at s n ≡ Some ns) × AreNamesOf i.body ns
  names =
      let number = zip_at (IsModuleOf program) (instances program) s.module_numbers.items are.numbers n i at in
      let ns = zip_at AreNamesOf program s.modules.items are.modules number.0 i.body number.2 in
      (ns.0, ap (option_and_then (slice_get s.modules.items)) number.1 ∙ ns.1, ns.2)

  pub declared_by : (m : List ℕ) → declared_at s n m ≡ lookup (bytes_eq m) (part_entries 0 0 i.body.parts)
  declared_by m = ap (option_and_then (λ (ns : ModuleNames). lookup (bytes_eq m) ns.items)) names.1 ∙ names.2.items m

  pub parameter_by : (m : List ℕ) → parameter_at s n m ≡ position (λ f. bytes_eq f.name m) i.body.params
  parameter_by m = ap (option_and_then (λ (ns : ModuleNames). lookup (bytes_eq m) ns.parameters)) names.1 ∙ names.2.parameters m

module _ (program : List Body) (below : ℕ) (r : Resolver) (ready : IsReadyBelow program below r) where
  abbrev all : List Instance
  all = instances program

  abbrev Means : Option Numbered → Target → Type 0
  Means o t = meant program r.symbols o ≡ Some t

  pub by_names : (n : ℕ) (i : Instance) → slice_get all n ≡ Some i → instance_at all i.up ≡ Some i
  by_names n i e =
      only_found (λ j. same_names j.up i.up) all n i e (same_names-refl i.up) (λ a j s t.
      let same : a ≡ n = ready.whole.one a n j i s e (same_names-true j.up i.up t) in
      let both : Some j ≡ Some i = sym s ∙ (ap (slice_get all) same ∙ e) in
      cc)

  module _ (n : ℕ) (i : Instance) (at : slice_get all n ≡ Some i) where
    declared_is : (m : List ℕ) → declared_at r.scopes n m ≡ lookup (bytes_eq m) (part_entries 0 0 i.body.parts)
    declared_is = declared_by program r.scopes ready.scopes n i at

    item_means : (m : List ℕ) (d : Declared) (other t : Target) → lookup (bytes_eq m) (part_entries 0 0 i.body.parts) ≡ Some d → Tells i.path i.up m i.body.parts other (Some d) t → Means (item_target r n d) t
    item_means m (declared.Variable k) other t e tells =
        ap (option_and_then (λ (j : Instance). option_and_then (variable_of j) (slice_get j.body.parts k))) at
        ∙ (ap (option_and_then (variable_of i)) tells.item ∙ ap Some (sym tells.stands))
    item_means m (declared.Define k rank) other t e tells =
        ap (option_and_then (λ (j : Instance). option_and_then (define_of j) (slice_get j.body.parts k))) at
        ∙ (ap (option_and_then (define_of i)) tells.item ∙ ap Some (sym tells.stands))
    item_means m (declared.Instance k) other t e tells =
        let child = ready.children n k i m at e in
        ap (λ o. meant program r.symbols (option_map numbered.Instance o)) child.1
        ∙ (ap (option_map (λ (j : Instance). to_instance j.up)) child.2.there ∙ ap Some (ap to_instance child.2.of ∙ sym tells.stands))

    behind_means : (m : List ℕ) → Means (target_behind r (Some (numbered.Instance n)) m) (member_of i.path i.up m i.body.parts to_nothing)
    behind_means m =
        ap (λ o. meant program r.symbols (option_and_then (item_target r n) o)) (declared_is m)
        ∙ by_table (lookup (bytes_eq m) (part_entries 0 0 i.body.parts)) refl (told i.path i.up m i.body.parts to_nothing)
      where
        t : Target
        t = member_of i.path i.up m i.body.parts to_nothing

        by_table : (o : Option Declared) → lookup (bytes_eq m) (part_entries 0 0 i.body.parts) ≡ o → Tells i.path i.up m i.body.parts to_nothing o t → Means (option_and_then (item_target r n) o) t
        by_table None e tells = ap Some (sym tells)
        by_table (Some d) e tells = item_means m d to_nothing t e tells

    outside_means : (m : List ℕ) → Means (outside_target r n m) (if bytes_eq (codes "self") m then to_instance i.up else symbol_of program m)
    outside_means m =
        subst (λ b. Means (outside_target r n m) (if b then to_instance i.up else symbol_of program m)) (bytes_eq-sym m (codes "self")) (by_test (bytes_eq m (codes "self")))
      where
        symbol_at : (o : Option ℕ) → meant program r.symbols (option_map numbered.Symbol o) ≡ elim o [ Some k ↦ option_map to_symbol (slice_get r.symbols k) | None ↦ Some to_nothing ]
        symbol_at None = refl
        symbol_at (Some k) = refl

        a_symbol : Means (option_map numbered.Symbol (position (bytes_eq m) r.symbols)) (symbol_of program m)
        a_symbol =
            ap (λ o. meant program r.symbols (option_map numbered.Symbol o)) (position_from-zero (bytes_eq m) r.symbols)
            ∙ (symbol_at (position_from (bytes_eq m) 0 r.symbols)
            ∙ (symbol_from m 0 r.symbols r.symbols (λ d. ap (slice_get r.symbols) (omega arith))
            ∙ ap (λ b. Some (if b then to_symbol m else to_nothing)) (ready.symbols m)))

        by_test : (b : Bool) → Means (if b then Some (numbered.Instance n) else option_map numbered.Symbol (position (bytes_eq m) r.symbols)) (if b then to_instance i.up else symbol_of program m)
        by_test true = ap (option_map (λ (j : Instance). to_instance j.up)) at
        by_test false = a_symbol

    first_means : n < below → (m : List ℕ) → Means (first_target r n m) (first_meant program (actual_in program i.up) i m)
    first_means l m =
        ap (λ o. meant program r.symbols (elim o [ Some k ↦ actual_at r n k | None ↦ elim (declared_at r.scopes n m) [ Some d ↦ item_target r n d | None ↦ outside_target r n m ] ])) (parameter_by program r.scopes ready.scopes n i at m)
        ∙ by_parameter (position (λ (f : Formal). bytes_eq f.name m) i.body.params) refl
      where
        other : Target
        other = if bytes_eq (codes "self") m then to_instance i.up else symbol_of program m

        t : Target
        t = member_of i.path i.up m i.body.parts other

        by_table : (o : Option Declared) → lookup (bytes_eq m) (part_entries 0 0 i.body.parts) ≡ o → Tells i.path i.up m i.body.parts other o t → Means (elim o [ Some d ↦ item_target r n d | None ↦ outside_target r n m ]) t
        by_table None e tells = outside_means m ∙ ap Some (sym tells)
        by_table (Some d) e tells = item_means m d other t e tells

        given : (k : ℕ) (o : Option Tree) → slice_get i.actuals k ≡ o → k < length i.actuals → Means (actual_at r n k) (or_else (elim o [ Some e ↦ Some (actual_in program i.up e) | None ↦ None ]) to_nothing)
        given k None e h = absurd (let x = in_list i.actuals k h in let no : None ≡ Some x.0 = sym e ∙ x.1 in cc)
        given k (Some x) e h = ready.actuals n k i x l at e

        by_parameter : (o : Option ℕ) → position (λ (f : Formal). bytes_eq f.name m) i.body.params ≡ o
            → Means (elim o [ Some k ↦ actual_at r n k | None ↦ elim (declared_at r.scopes n m) [ Some d ↦ item_target r n d | None ↦ outside_target r n m ] ])
            (elim o [ Some k ↦ or_else (elim (slice_get i.actuals k) [ Some e ↦ Some (actual_in program i.up e) | None ↦ None ]) to_nothing | None ↦ t ])
        by_parameter (Some k) e =
            let owner : Formal = record { name = []; place = record { line = 0; column = 0 } } in
            let few : k < length i.body.params = (position-Some (λ (f : Formal). bytes_eq f.name m) i.body.params k owner e).0 in
            let matched : length i.actuals ≡ length i.body.params = ready.whole.matched i (slice_get-contained all n i at) in
            given k (slice_get i.actuals k) refl (omega arith)
        by_parameter None e =
            ap (λ o. meant program r.symbols (elim o [ Some d ↦ item_target r n d | None ↦ outside_target r n m ])) (declared_is m)
            ∙ by_table (lookup (bytes_eq m) (part_entries 0 0 i.body.parts)) refl (told i.path i.up m i.body.parts other)

  further_means : (ms : List (List ℕ)) (o : Option Numbered) (t : Target) → Means o t → Means (further_target r o ms) (follow all t ms)
  further_means [] o t h = h
  further_means (m ∷ ms) o t h =
      by_kind (λ x u. Means (further_target r (target_behind r x m) ms) (follow all u (m ∷ ms))) program r.symbols (each (further_means ms)) o t h
    where
      stays : (ns : List (List ℕ)) → follow all to_nothing ns ≡ to_nothing
      stays [] = refl
      stays (n ∷ ns) = refl

      each : ((x : Option Numbered) (u : Target) → Means x u → Means (further_target r x ms) (follow all u ms)) → OfEachKind (λ x u. Means (further_target r (target_behind r x m) ms) (follow all u (m ∷ ms))) program r.symbols
      each rest =
          let nowhere : Means (further_target r None ms) to_nothing = rest None to_nothing refl ∙ ap Some (stays ms) in
          record {
            nothing = nowhere;
            a_variable = λ n k path. nowhere;
            a_define = λ n k up e. nowhere;
            a_parameter = λ n k up e. nowhere;
            a_instance = λ n i at.
                rest (target_behind r (Some (numbered.Instance n)) m) (member_of i.path i.up m i.body.parts to_nothing) (behind_means n i at m)
                ∙ ap (λ x. Some (elim x [ Some j ↦ follow all (member_of j.path j.up m j.body.parts to_nothing) ms | None ↦ to_nothing ])) (sym (by_names n i at));
            a_symbol = λ k s. nowhere;
          }

  resolve_by : (up path : List (List ℕ)) → resolve program up path ≡ resolve_from program (actual_in program up) up path
  resolve_by [] path = refl
  resolve_by (n ∷ around) path = refl

  pub resolves : (n : ℕ) (i : Instance) → n < below → slice_get all n ≡ Some i → (names : List (List ℕ)) → Means (resolved r n names) (resolve program i.up names)
  resolves n i l at [] = ap Some (sym (resolve_by i.up []))
  resolves n i l at (m ∷ ms) =
      further_means ms (first_target r n m) (first_meant program (actual_in program i.up) i m) (first_means n i at l m)
      ∙ ap Some (ap (λ x. elim x [ Some j ↦ follow all (first_meant program (actual_in program i.up) j m) ms | None ↦ to_nothing ]) (sym (by_names n i at)) ∙ sym (resolve_by i.up (m ∷ ms)))
