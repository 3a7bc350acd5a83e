-- Where the modules of a program have no faults, its instances are as their declarations say.
use Rattle.std.proofs.Common.{◌≡◌, ◌<◌, ◌+◌, ◌==◌, ℕ, zero, suc, Bool, true, false, cond, not, ◌&&◌, ◌||◌, List, [], ◌∷◌, ◌++◌, length, map, flat_map, refl, ap, sym, ◌∙◌, subst, inl, inr, arith, append_assoc, eqb-true}
use Rattle.std.specs.Prelude.{◌⊎◌, Contains, Option, Some, None, codes, if◌then◌else◌, slice_get, filter_map}
use Rattle.std.specs.Map.{lookup}
use Rattle.std.specs.Str.{bytes_eq}
use Rattle.std.proofs.lemmas.Bool.{false≢true, cases_order}
use Rattle.std.proofs.lemmas.Slice.Eq.{bytes_eq-Decides}
use Rattle.smv_tree.specs.declared.place.Place.{Place}
use Rattle.smv_tree.specs.declared.program.Kind.{Kind}
use Rattle.smv_tree.specs.Trees.{Tree}
use Rattle.smv_tree.specs.Models.{Body, Part, variable, define, assign, constraint, property, plain, instance}
use Rattle.type_fault.specs.declared.fault.TypeFault.TheVariants.{NoMain, Twice, Arity}
use Rattle.smv_meaning.specs.Instances.{Instance, instance_of, find_body, list_of, entries_below, instances}
use Rattle.smv_meaning.specs.Names.{to_nothing, member_of}
use Rattle.smv_meaning.specs.Definitions.{declares}
use Rattle.smv_meaning.specs.ModuleCycles.{module_of, Instantiates, IsReached, HasModuleCycle}
use Rattle.smv_meaning.specs.Rows.{IsNumber}
use Rattle.smv_meaning.proofs.Lists.{contains_none, contains_cases, contains_first, contains_later, contains_filter_map, slice_get-contained}
use Rattle.smv_meaning.proofs.AllInstances.{all_entries, reach_on}
use Rattle.smv_graph.proofs.Named.{located}
use Rattle.smv_graph.proofs.Numbering.{bytes_eq-sym}
use Rattle.smv_modules.specs.Declarations.{Declaration, declares as is_among, doubled, formal_declaration, part_declarations, enumeration_declarations, declarations, doubled_in, name_faults, has_main, module_declaration}
use Rattle.smv_modules.specs.References.{AreThoseOf, AreReferenceFaults, reference_faults, part_faults, main_faults, references_in}
use Rattle.smv_modules.proofs.Agains.{again_listed}
use Rattle.smv_modules.proofs.Reached.{contained_at}
use Rattle.smv_names.specs.declared.declared.Declared.{Declared}
use Rattle.smv_names.specs.declared.declared.Declared.TheVariants as declared
use Rattle.smv_names.specs.Tables.{defines_of, part_entries}
use Rattle.smv_names.specs.Members.{Tells, TellsInstance}
use Rattle.smv_names.specs.Whole.{Declares, IsWhole}
use Rattle.smv_names.proofs.Members.{told}
use Rattle.smv_names.proofs.Subtrees.{DeclaresOnce, IsBrought, all_brought, by_part, part_brings, AreInOrder, order_at, subtree, root, from_body, in_order, longer}

nothing_in : {X : Type 0} (xs ys : List X) → xs ++ ys ≡ [] → (xs ≡ []) × (ys ≡ [])
nothing_in [] ys e = (refl, e)
nothing_in (x ∷ xs) ys e = absurd (cc)

none_of : {X Y : Type 0} (f : X → List Y) (xs : List X) (x : X) → flat_map f xs ≡ [] → Contains xs x → f x ≡ []
none_of f [] x e c = absurd (contains_none x c)
none_of f (y ∷ ys) x e c =
    let both = nothing_in (f y) (flat_map f ys) e in
    elim (contains_cases y ys x c) [ inl same ↦ ap f (sym same) ∙ both.0 | inr d ↦ none_of f ys x both.1 d ]

those_contain : {X : Type 0} (holds : X → Type 0) (xs some : List X) (x : X) → AreThoseOf holds xs some → Contains xs x → holds x → Contains some x
those_contain holds [] some x h c p = absurd (contains_none x c)
those_contain {X} holds (y ∷ ys) some x h c p = by_case h (contains_cases y ys x c) (λ more g d. those_contain holds ys more x g d p)
  where
    by_case : ((holds y × ((rest : List X) × (some ≡ y ∷ rest) × AreThoseOf holds ys rest)) ⊎ ((holds y → ⊥) × AreThoseOf holds ys some)) → (y ≡ x) ⊎ Contains ys x → ((more : List X) → AreThoseOf holds ys more → Contains ys x → Contains more x) → Contains some x
    by_case (inl (k, (rest, e, t))) (inl same) go = subst (λ zs. Contains zs x) (sym e) (subst (Contains (y ∷ rest)) same (contains_first y rest))
    by_case (inl (k, (rest, e, t))) (inr d) go = subst (λ zs. Contains zs x) (sym e) (contains_later y rest x (go rest t d))
    by_case (inr (lacks, t)) (inl same) go = absurd (lacks (subst holds (sym same) p))
    by_case (inr (lacks, t)) (inr d) go = go some t d

-- the declaration of a part that declares a name
declaration_at : (parts : List Part) (b : ℕ) (q : Part) (n : List ℕ) → slice_get parts b ≡ Some q → declares n q ≡ true
    → (front : List Declaration) × (d : Declaration) × (rest : List Declaration) × (flat_map part_declarations parts ≡ front ++ d ∷ rest) × (d.name ≡ n)
declaration_at [] b q n e t = absurd (cc)
declaration_at (p ∷ ps) zero q n e t = own p (let same : p ≡ q = cc in subst (λ x. declares n x ≡ true) (sym same) t)
  where
    own : (x : Part) → declares n x ≡ true → (front : List Declaration) × (d : Declaration) × (rest : List Declaration) × (part_declarations x ++ flat_map part_declarations ps ≡ front ++ d ∷ rest) × (d.name ≡ n)
    own (variable k m at s) h = ([], record { name = m; place = at }, flat_map part_declarations ps, refl, (bytes_eq-Decides m n).0 h)
    own (define m at x) h = ([], record { name = m; place = at }, flat_map part_declarations ps, refl, (bytes_eq-Decides m n).0 h)
    own (assign o m at x) h = absurd (false≢true h)
    own (constraint s at x) h = absurd (false≢true h)
    own (property m at f) h = absurd (false≢true h)
declaration_at (p ∷ ps) (suc b) q n e t =
    let r = declaration_at ps b q n e t in
    (part_declarations p ++ r.0, r.1, r.2, ap (λ ds. part_declarations p ++ ds) r.3 ∙ sym (append_assoc (part_declarations p) r.0 (r.1 ∷ r.2)), r.4)

-- no declaration has the name of one before it, here behind these
abbrev NoneAgain : List Declaration → List Declaration → Type 0
NoneAgain before ds = (front : List Declaration) (d : Declaration) (rest : List Declaration) → before ++ ds ≡ front ++ d ∷ rest → is_among front d.name ≡ true → ⊥

among_last : (before : List Declaration) (d : Declaration) (front : List Declaration) (n : List ℕ) → bytes_eq d.name n ≡ true → is_among ((before ++ d ∷ []) ++ front) n ≡ true
among_last [] d front n h = ap (λ b. b || is_among front n) (bytes_eq-sym n d.name ∙ h)
among_last (x ∷ xs) d front n h = by_test (bytes_eq n x.name) (among_last xs d front n h)
  where
    by_test : (b : Bool) → is_among ((xs ++ d ∷ []) ++ front) n ≡ true → (b || is_among ((xs ++ d ∷ []) ++ front) n) ≡ true
    by_test true g = refl
    by_test false g = g

among_own : (before : List Declaration) (part : Part) (front : List Declaration) (n : List ℕ) → declares n part ≡ true → is_among ((before ++ part_declarations part) ++ front) n ≡ true
among_own before (variable k m at s) front n h = among_last before (record { name = m; place = at }) front n h
among_own before (define m at x) front n h = among_last before (record { name = m; place = at }) front n h
among_own before (assign o m at x) front n h = absurd (false≢true h)
among_own before (constraint s at x) front n h = absurd (false≢true h)
among_own before (property m at f) front n h = absurd (false≢true h)

once_behind : (before : List Declaration) (parts : List Part) → NoneAgain before (flat_map part_declarations parts) → DeclaresOnce parts
once_behind before [] none n a b p q e f s t = absurd (cc)
once_behind before (x ∷ xs) none n a b p q e f s t = by_places a b e f (once_behind (before ++ part_declarations x) xs further)
  where
    further : NoneAgain (before ++ part_declarations x) (flat_map part_declarations xs)
    further front d rest g = none front d rest (sym (append_assoc before (part_declarations x) (flat_map part_declarations xs)) ∙ g)

    apart : (k : ℕ) (y z : Part) → slice_get xs k ≡ Some y → declares n y ≡ true → x ≡ z → declares n z ≡ true → ⊥
    apart k y z g h same own =
        let d = declaration_at xs k y n g h in
        further ((before ++ part_declarations x) ++ d.0) d.1 d.2 (ap (λ ds. (before ++ part_declarations x) ++ ds) d.3 ∙ sym (append_assoc (before ++ part_declarations x) d.0 (d.1 ∷ d.2)))
        (subst (λ m. is_among ((before ++ part_declarations x) ++ d.0) m ≡ true) (sym d.4) (among_own before x d.0 n (subst (λ w. declares n w ≡ true) (sym same) own)))

    by_places : (a b : ℕ) → slice_get (x ∷ xs) a ≡ Some p → slice_get (x ∷ xs) b ≡ Some q → DeclaresOnce xs → a ≡ b
    by_places zero zero g h rest = refl
    by_places zero (suc k) g h rest = absurd (apart k q p h t (let same : x ≡ p = cc in same) s)
    by_places (suc k) zero g h rest = absurd (apart k p q g s (let same : x ≡ q = cc in same) t)
    by_places (suc k) (suc l) g h rest = ap suc (rest n k l p q g h s t)

-- the table of a module has a part that declares a name, if no part before it does
found_entry : (m : List ℕ) (parts : List Part) (k r a : ℕ) (kind : Kind) (p q : Place) (b : List ℕ) (es : List Tree) → slice_get parts a ≡ Some (variable kind m p (instance b q es)) → ((j : ℕ) (x : Part) → j < a → slice_get parts j ≡ Some x → declares m x ≡ false)
    → lookup (bytes_eq m) (part_entries k r parts) ≡ Some (declared.Instance (k + a))
found_entry m [] k r a kind p q b es e none = absurd (cc)
found_entry m (part ∷ parts) k r zero kind p q b es e none =
    let same : part ≡ variable kind m p (instance b q es) = cc in
    ap (λ x. lookup (bytes_eq m) (part_entries k r (x ∷ parts))) same
    ∙ (ap (λ t. cond t (Some (declared.Instance k)) (lookup (bytes_eq m) (part_entries (k + 1) (r + 0) parts))) ((bytes_eq-Decides m m).1 refl) ∙ ap (λ n. Some (declared.Instance n)) (omega arith))
found_entry m (part ∷ parts) k r (suc a) kind p q b es e none =
    passed part (none 0 part (omega arith) refl) (found_entry m parts (k + 1) (r + defines_of part) a kind p q b es e (λ j x l f. none (suc j) x (omega (arith, l)) f)) ∙ ap (λ n. Some (declared.Instance n)) (omega arith)
  where
    later : Option Declared
    later = Some (declared.Instance (k + 1 + a))

    by_name : (n : List ℕ) (o : Declared) (rest : Option Declared) → bytes_eq n m ≡ false → rest ≡ later → cond (bytes_eq m n) (Some o) rest ≡ later
    by_name n o rest f g = ap (λ t. cond t (Some o) rest) (bytes_eq-sym m n ∙ f) ∙ g

    passed : (x : Part) → declares m x ≡ false → lookup (bytes_eq m) (part_entries (k + 1) (r + defines_of x) parts) ≡ later → lookup (bytes_eq m) (part_entries k r (x ∷ parts)) ≡ later
    passed (variable o n at (plain t s)) f g = by_name n (declared.Variable k) (lookup (bytes_eq m) (part_entries (k + 1) (r + 0) parts)) f g
    passed (variable o n at (instance c s xs)) f g = by_name n (declared.Instance k) (lookup (bytes_eq m) (part_entries (k + 1) (r + 0) parts)) f g
    passed (define n at x) f g = by_name n (declared.Define k r) (lookup (bytes_eq m) (part_entries (k + 1) (r + 1) parts)) f g
    passed (assign o n at x) f g = g
    passed (constraint o at x) f g = g
    passed (property n at x) f g = g

-- an instance is declared by another one
record IsDeclaredBy (j x : Instance) (of : List ℕ) : Type 0 where
  kind : Kind
  name : List ℕ
  place : Place
  at : Place
  part : Contains j.body.parts (variable kind name place (instance of at x.actuals))
  up : x.up ≡ name ∷ j.up

module _ (program : List Body) where
  -- an instance is the first of a list, with these names and actual parameters, or another of the list declares it
  record IsPlacedIn (all : List Instance) (up : List (List ℕ)) (m : List ℕ) (es : List Tree) (x : Instance) : Type 0 where
    of : List ℕ
    found : find_body of program ≡ Some x.body
    reached : IsReached program of
    placed : ((x.up ≡ up) × (x.actuals ≡ es) × (of ≡ m)) ⊎ ((j : Instance) × Contains all j × IsDeclaredBy j x of)

  placed_in : (depth : ℕ) (path up : List (List ℕ)) (m : List ℕ) (es : List Tree) → IsReached program m → (x : Instance) → Contains (subtree program depth path up m es) x → IsPlacedIn (subtree program depth path up m es) up m es x
  unfolding all_brought
  placed_in zero path up m es reached x c = absurd (contains_none x c)
  placed_in (suc depth) path up m es reached x c = by_body (find_body m program) refl c (placed_in depth)
    where
      Rest : Type 0
      Rest = (path up : List (List ℕ)) (n : List ℕ) (as_ : List Tree) → IsReached program n → (y : Instance) → Contains (subtree program depth path up n as_) y → IsPlacedIn (subtree program depth path up n as_) up n as_ y

      deeper : (b : Body) → find_body m program ≡ Some b → IsBrought (entries_below depth program) path up b.parts x → Rest → IsPlacedIn (from_body program depth path up es (Some b)) up m es x
      deeper b f w rest =
          let own : Instantiates program m w.of = subst (λ o. Contains (list_of (λ y. filter_map module_of y.parts) o) w.of) (sym f) (contains_filter_map module_of b.parts (variable w.kind w.name w.place (instance w.of w.at w.actuals)) w.of w.part refl) in
          let s = rest (path ++ w.name ∷ []) (w.name ∷ up) w.of w.actuals (reach_on program m w.of reached own) x w.brought in
          record { of = s.of; found = s.found; reached = s.reached; placed = inr (by_place s.of s.placed) }
        where
          all : List Instance
          all = from_body program depth path up es (Some b)

          by_place : (of : List ℕ) → ((x.up ≡ w.name ∷ up) × (x.actuals ≡ w.actuals) × (of ≡ w.of)) ⊎ ((j : Instance) × Contains (subtree program depth (path ++ w.name ∷ []) (w.name ∷ up) w.of w.actuals) j × IsDeclaredBy j x of) → (j : Instance) × Contains all j × IsDeclaredBy j x of
          by_place of (inl (u, a, o)) = (
            root program path up es b,
            contains_first (root program path up es b) (all_brought (entries_below depth program) path up b.parts),
            record {
              kind = w.kind;
              name = w.name;
              place = w.place;
              at = w.at;
              part = subst (λ n. Contains b.parts (variable w.kind w.name w.place (instance n w.at x.actuals))) (sym o) (subst (λ xs. Contains b.parts (variable w.kind w.name w.place (instance w.of w.at xs))) (sym a) w.part);
              up = u;
            },
          )
          by_place of (inr (j, d, by)) = (
            j,
            contains_later (root program path up es b) (all_brought (entries_below depth program) path up b.parts) j (part_brings (entries_below depth program) path up b.parts j (record {
              kind = w.kind;
              name = w.name;
              place = w.place;
              of = w.of;
              at = w.at;
              actuals = w.actuals;
              part = w.part;
              brought = d;
            })),
            by,
          )

      by_body : (o : Option Body) → find_body m program ≡ o → Contains (from_body program depth path up es o) x → Rest → IsPlacedIn (from_body program depth path up es o) up m es x
      by_body None f d rest = absurd (contains_none x d)
      by_body (Some b) f d rest = elim (contains_cases (root program path up es b) (all_brought (entries_below depth program) path up b.parts) x d) [
        | inl e ↦ record { of = m; found = f ∙ ap (λ (y : Instance). Some y.body) e; reached = reached; placed = inl (ap (λ (y : Instance). y.up) (sym e), ap (λ (y : Instance). y.actuals) (sym e), refl) }
        | inr k ↦ deeper b f (by_part (entries_below depth program) path up b.parts x k) rest
      ]

  -- one level further down, the instances are there that an instance declares
  brings_declared : (depth : ℕ) (path up : List (List ℕ)) (m : List ℕ) (es : List Tree) (x : Instance) → Contains (subtree program depth path up m es) x → (kind : Kind) (name : List ℕ) (p q : Place) (of : List ℕ) (given : List Tree) (c : Body)
      → Contains x.body.parts (variable kind name p (instance of q given)) → find_body of program ≡ Some c → (y : Instance) × Contains (subtree program (suc depth) path up m es) y × (y.up ≡ name ∷ x.up)
  unfolding all_brought
  brings_declared zero path up m es x h kind name p q of given c part found = absurd (contains_none x h)
  brings_declared (suc depth) path up m es x h kind name p q of given c part found =
      by_body (find_body m program) h (λ above n as_ d. brings_declared depth (path ++ n ∷ []) (n ∷ up) above as_ x d kind name p q of given c part found)
    where
      Rest : Type 0
      Rest = (above n : List ℕ) (as_ : List Tree) → Contains (subtree program depth (path ++ n ∷ []) (n ∷ up) above as_) x → (y : Instance) × Contains (subtree program (suc depth) (path ++ n ∷ []) (n ∷ up) above as_) y × (y.up ≡ name ∷ x.up)

      new : Instance
      new = root program (path ++ name ∷ []) (name ∷ up) given c

      there : Contains (subtree program (suc depth) (path ++ name ∷ []) (name ∷ up) of given) new
      there = subst (λ o. Contains (from_body program depth (path ++ name ∷ []) (name ∷ up) given o) new) (sym found) (contains_first new (all_brought (entries_below depth program) (path ++ name ∷ []) (name ∷ up) c.parts))

      within : (b : Body) (y : Instance) → IsBrought (entries_below (suc depth) program) path up b.parts y → Contains (from_body program (suc depth) path up es (Some b)) y
      within b y w = contains_later (root program path up es b) (all_brought (entries_below (suc depth) program) path up b.parts) y (part_brings (entries_below (suc depth) program) path up b.parts y w)

      by_body : (o : Option Body) → Contains (from_body program depth path up es o) x → Rest → (y : Instance) × Contains (from_body program (suc depth) path up es o) y × (y.up ≡ name ∷ x.up)
      by_body None d rest = absurd (contains_none x d)
      by_body (Some b) d rest = elim (contains_cases (root program path up es b) (all_brought (entries_below depth program) path up b.parts) x d) [
        | inl e ↦ (new, within b new (record { kind = kind; name = name; place = p; of = of; at = q; actuals = given; part = subst (λ (z : Instance). Contains z.body.parts (variable kind name p (instance of q given))) (sym e) part; brought = there }), ap (λ (z : Instance). name ∷ z.up) e)
        | inr k ↦ (let w = by_part (entries_below depth program) path up b.parts x k in
            let r = rest w.of w.name w.actuals w.brought in
            (r.0, within b r.0 (record { kind = w.kind; name = w.name; place = w.place; of = w.of; at = w.at; actuals = w.actuals; part = w.part; brought = r.1 }), r.2))
      ]

  module _ (names : name_faults program ≡ []) (references : AreReferenceFaults program []) (acyclic : HasModuleCycle program → ⊥) where
    abbrev all : List Instance
    all = instances program

    in_program : (m : List ℕ) (b : Body) → find_body m program ≡ Some b → Contains program b × (b.name ≡ m)
    in_program m b f = elim (located program m) [
      | inl none ↦ absurd (let no : None ≡ Some b = sym none.1 ∙ f in cc)
      | inr (k, c, l) ↦ (let both : Some c ≡ Some b = sym l.found ∙ f in
          let same : c ≡ b = cc in
          (subst (Contains program) same (slice_get-contained program k c l.there), subst (λ x. x.name ≡ m) same l.name))
    ]

    once : (m : List ℕ) (b : Body) → find_body m program ≡ Some b → DeclaresOnce b.parts
    once m b f =
        let later = nothing_in (if has_main program then [] else NoMain ∷ []) (doubled (map module_declaration program) ++ flat_map doubled_in program) names in
        let within = nothing_in (doubled (map module_declaration program)) (flat_map doubled_in program) later.1 in
        let own = none_of doubled_in program b within.1 (in_program m b f).0 in
        let none = nothing_in (doubled (declarations b)) (flat_map (λ part. doubled (enumeration_declarations part)) b.parts) own in
        once_behind (map formal_declaration b.params) b.parts (λ front d rest e h. contains_none (Twice d.place d.name)
        (subst (λ fs. Contains fs (Twice d.place d.name)) none.0 (again_listed (declarations b) (Twice d.place d.name) (record { front = front; again = d; rest = rest; listed = e; earlier = h; fault = refl }))))

    order : AreInOrder all
    order = in_order program once (length program) [] [] (codes "main") []

    same_at : (a b : ℕ) (i j : Instance) → slice_get all a ≡ Some i → slice_get all b ≡ Some j → i.up ≡ j.up → a ≡ b
    same_at a b i j e f u = elim (cases_order a b) [
      | inl h ↦ h
      | inr (inl l) ↦ absurd (order_at all a b i j order e f l [] u)
      | inr (inr l) ↦ absurd (order_at all b a j i order f e l [] (sym u))
    ]

    behind_at : (a b : ℕ) (i j : Instance) (m : List ℕ) → slice_get all a ≡ Some i → slice_get all b ≡ Some j → j.up ≡ m ∷ i.up → a < b
    behind_at a b i j m e f u = elim (cases_order a b) [
      | inl h ↦ absurd (let both : Some i ≡ Some j = sym e ∙ (ap (slice_get all) h ∙ f) in
          let same : i ≡ j = cc in
          longer [] i.up m (ap (λ (x : Instance). x.up) same ∙ u))
      | inr (inl l) ↦ l
      | inr (inr l) ↦ absurd (order_at all b a j i order f e l (m ∷ []) u)
    ]

    where_is : (i : Instance) → Contains all i → IsPlacedIn all [] (codes "main") [] i
    where_is i c = placed_in (length program) [] [] (codes "main") [] (inl refl) i c

    -- what is reached refers to what is there
    refers : (m : List ℕ) (b : Body) → find_body m program ≡ Some b → IsReached program m → references_in program b ≡ []
    refers m b f h =
        let place = in_program m b f in
        none_of (references_in program) references.reached b (sym references.listed) (those_contain (λ x. IsReached program x.name) program references.reached b references.are_reached place.0 (subst (IsReached program) (sym place.1) h))

    part_refers : (b : Body) (part : Part) → references_in program b ≡ [] → Contains b.parts part → part_faults program part ≡ []
    part_refers b part e c = none_of (part_faults program) b.parts part (nothing_in (main_faults b) (flat_map (part_faults program) b.parts) e).1 c

    counted : (n k : ℕ) (p : Place) → (if n == k then [] else Arity p ∷ []) ≡ [] → k ≡ n
    counted n k p e = by_test (n == k) refl e
      where
        by_test : (t : Bool) → (n == k) ≡ t → (if t then [] else Arity p ∷ []) ≡ [] → k ≡ n
        by_test true h g = sym (eqb-true n k h)
        by_test false h g = absurd (cc)

    given_many : (of : List ℕ) (p : Place) (n : ℕ) (b : Body) → find_body of program ≡ Some b → reference_faults of p n (find_body of program) ≡ [] → n ≡ length b.params
    given_many of p n b f e = counted (length b.params) n p (ap (reference_faults of p n) (sym f) ∙ e)

    referred : (of : List ℕ) (p : Place) (n : ℕ) → reference_faults of p n (find_body of program) ≡ [] → (b : Body) × (find_body of program ≡ Some b)
    referred of p n e = by_body (find_body of program) e
      where
        by_body : (o : Option Body) → reference_faults of p n o ≡ [] → (b : Body) × (o ≡ Some b)
        by_body None h = absurd (cc)
        by_body (Some b) h = (b, refl)

    main_given : (b : Body) → bytes_eq b.name (codes "main") ≡ true → main_faults b ≡ [] → length b.params ≡ 0
    main_given b h e = by_test (length b.params == 0) refl (ap (λ t. if t && not (length b.params == 0) then Arity b.place ∷ [] else []) (sym h) ∙ e)
      where
        by_test : (t : Bool) → (length b.params == 0) ≡ t → (if true && not t then Arity b.place ∷ [] else []) ≡ [] → length b.params ≡ 0
        by_test true g k = eqb-true (length b.params) 0 g
        by_test false g k = absurd (cc)

    main_alone : (i : Instance) → Contains all i → i.up ≡ [] → i.actuals ≡ []
    main_alone i c u = elim (where_is i c).placed [
      | inl (v, a, o) ↦ a
      | inr (j, d, by) ↦ absurd (let no : [] ≡ by.name ∷ j.up = sym u ∙ by.up in cc)
    ]

    matched : (i : Instance) → Contains all i → length i.actuals ≡ length i.body.params
    matched i c = by_place (where_is i c)
      where
        by_place : IsPlacedIn all [] (codes "main") [] i → length i.actuals ≡ length i.body.params
        by_place s = elim s.placed [
          | inl (v, a, o) ↦ (let named : i.body.name ≡ codes "main" = (in_program s.of i.body s.found).1 ∙ o in
              let none = nothing_in (main_faults i.body) (flat_map (part_faults program) i.body.parts) (refers s.of i.body s.found s.reached) in
              ap length a ∙ sym (main_given i.body ((bytes_eq-Decides i.body.name (codes "main")).1 named) none.0))
          | inr (j, d, by) ↦ (let t = where_is j d in
              given_many s.of by.at (length i.actuals) i.body s.found (part_refers j.body (variable by.kind by.name by.place (instance s.of by.at i.actuals)) (refers t.of j.body t.found t.reached) by.part))
        ]

    declared_there : (i : Instance) (m : List ℕ) (k : ℕ) → Contains all i → lookup (bytes_eq m) (part_entries 0 0 i.body.parts) ≡ Some (declared.Instance k) → (c : ℕ) × IsNumber program c (m ∷ i.up)
    declared_there i m k c e =
        let tells : TellsInstance i.path i.up m i.body.parts (member_of i.path i.up m i.body.parts to_nothing) k = subst (λ o. Tells i.path i.up m i.body.parts to_nothing o (member_of i.path i.up m i.body.parts to_nothing)) e (told i.path i.up m i.body.parts to_nothing) in
        let s = where_is i c in
        let part = slice_get-contained i.body.parts k (variable tells.kind m tells.place (instance tells.module_name tells.at tells.actuals)) tells.item in
        let body = referred tells.module_name tells.at (length tells.actuals) (part_refers i.body (variable tells.kind m tells.place (instance tells.module_name tells.at tells.actuals)) (refers s.of i.body s.found s.reached) part) in
        let y = brings_declared (length program) [] [] (codes "main") [] i c tells.kind m tells.place tells.at tells.module_name tells.actuals body.0 part body.1 in
        let same = ap (filter_map instance_of) (all_entries program acyclic (suc (length program)) (omega arith)) in
        let at = contained_at all y.0 (subst (λ xs. Contains xs y.0) same y.1) in
        (at.0, record { instance = y.0; there = at.1; of = y.2 })

    given_by : (i j : Instance) (m : List ℕ) → Contains all i → Contains all j → j.up ≡ m ∷ i.up → (k : ℕ) × Declares i j m k
    given_by i j m ci cj u = by_place (where_is j cj)
      where
        by_place : IsPlacedIn all [] (codes "main") [] j → (k : ℕ) × Declares i j m k
        by_place s = elim s.placed [
          | inl (v, a, o) ↦ absurd (let no : [] ≡ m ∷ i.up = sym v ∙ u in cc)
          | inr (x, d, by) ↦ (let ups : by.name ∷ x.up ≡ m ∷ i.up = sym by.up ∙ u in
              let name : by.name ≡ m = cc in
              let up : x.up ≡ i.up = cc in
              let ax = contained_at all x d in
              let ai = contained_at all i ci in
              let both : Some x ≡ Some i = sym ax.1 ∙ (ap (slice_get all) (same_at ax.0 ai.0 x i ax.1 ai.1 up) ∙ ai.1) in
              let same : x ≡ i = cc in
              let part = subst (λ (z : Instance). Contains z.body.parts (variable by.kind m by.place (instance s.of by.at j.actuals))) same (subst (λ n. Contains x.body.parts (variable by.kind n by.place (instance s.of by.at j.actuals))) name by.part) in
              let at = contained_at i.body.parts (variable by.kind m by.place (instance s.of by.at j.actuals)) part in
              let t = where_is i ci in
              let first = found_entry m i.body.parts 0 0 at.0 by.kind by.place by.at s.of j.actuals at.1 (λ k y l e. not_before (once t.of i.body t.found) at.0 (variable by.kind m by.place (instance s.of by.at j.actuals)) at.1 ((bytes_eq-Decides m m).1 refl) k y l e) in
              (at.0, record { named = first ∙ ap (λ n. Some (declared.Instance n)) (omega arith); kind = by.kind; place = by.place; at = by.at; of = s.of; item = at.1 }))
        ]
          where
            not_before : DeclaresOnce i.body.parts → (a : ℕ) (q : Part) → slice_get i.body.parts a ≡ Some q → declares m q ≡ true → (k : ℕ) (y : Part) → k < a → slice_get i.body.parts k ≡ Some y → declares m y ≡ false
            not_before single a q e t k y l f = by_test (declares m y) refl
              where
                by_test : (b : Bool) → declares m y ≡ b → declares m y ≡ false
                by_test true h = absurd (let same : k ≡ a = single m k a y q f e h t in omega (arith, same, l))
                by_test false h = h

    pub whole : IsWhole program
    whole = record { one = same_at; ordered = behind_at; there = declared_there; given = given_by; matched = matched; main = main_alone }
