-- Declarations one after the other have the first fault of their list.
use Rattle.std.proofs.Common.{◌≡◌, ℕ, Bool, true, false, List, [], ◌∷◌, ◌++◌, fold, map, flat_map, refl, ap, sym, ◌∙◌, subst, append_assoc, ◌||◌, ◌+◌, ◌<◌, length, take, get_or}
use Rattle.std.specs.Prelude.{Option, Some, None, if◌then◌else◌}
use Rattle.std.specs.List.{list_any}
use Rattle.std.specs.Str.{bytes_eq}
use Rattle.std.proofs.lemmas.List.{append-nil, map-append, take_more}
use Rattle.std.proofs.lemmas.Grind.{flat_map-append}
use Rattle.std.proofs.lemmas.List.Folds.{list_any-append}
use Rattle.std.proofs.lemmas.Slice.Eq.{bytes_eq-Decides}
use Rattle.type_fault.specs.declared.fault.TypeFault.{TypeFault}
use Rattle.type_fault.specs.declared.fault.TypeFault.TheVariants.{Twice}
use Rattle.type_fault.specs.First.{earlier, earliest}
use Rattle.indexmap.specs.IndexSet.{insert_key}
use Rattle.type_fault.proofs.Firsts.{earliest_both}
use Rattle.smv_modules.specs.Declarations.{Declaration, declares, doubled_behind, doubled}
use Rattle.smv_modules.specs.Scopes.{Seen, nothing_seen, see}

-- a scope has the names of these declarations
abbrev pub Knows : Seen → List Declaration → Type 0
Knows s before = (m : List ℕ) → list_any (bytes_eq m) s.names ≡ declares before m

pub one_fault : (f : TypeFault) → earliest (f ∷ []) ≡ Some f
unfolding earliest
one_fault f = refl

pub no_fault : earliest [] ≡ None
unfolding earliest
no_fault = refl

or_false : (b : Bool) → (b || false) ≡ b
or_false true = refl
or_false false = refl

-- a name that is there already
knows_old : (s : Seen) (before : List Declaration) (d : Declaration) → Knows s before → declares before d.name ≡ true → Knows s (before ++ d ∷ [])
knows_old s before d k there m = k m ∙ sym (list_any-append (λ e. bytes_eq m e.name) before (d ∷ []) ∙ by_test (bytes_eq m d.name) refl)
  where
    by_test : (b : Bool) → bytes_eq m d.name ≡ b → (declares before m || (b || false)) ≡ declares before m
    by_test true e = let same : m ≡ d.name = (bytes_eq-Decides m d.name).0 e in let h : declares before m ≡ true = subst (λ n. declares before n ≡ true) (sym same) there in rw h refl
    by_test false e = or_false (declares before m)

-- a new name
knows_new : (s : Seen) (before : List Declaration) (d : Declaration) → Knows s before → Knows (record { names = s.names ++ d.name ∷ []; first = s.first }) (before ++ d ∷ [])
knows_new s before d k m =
    list_any-append (bytes_eq m) s.names (d.name ∷ []) ∙ (ap (λ b. b || (bytes_eq m d.name || false)) (k m)
    ∙ sym (list_any-append (λ e. bytes_eq m e.name) before (d ∷ [])))

seen_doubled : (ds before : List Declaration) (s : Seen) (fs : List TypeFault) → Knows s before → s.first ≡ earliest fs → (fold see s ds).first ≡ earliest (fs ++ doubled_behind before ds)
seen_doubled [] before s fs k e = e ∙ ap earliest (sym (append-nil fs))
seen_doubled (d ∷ ds) before s fs k e = by_test (declares before d.name) refl (λ next gs j h. seen_doubled ds (before ++ d ∷ []) next gs j h)
  where
    rest : List TypeFault
    rest = doubled_behind (before ++ d ∷ []) ds

    by_test : (b : Bool) → declares before d.name ≡ b
        → ((next : Seen) (gs : List TypeFault) → Knows next (before ++ d ∷ []) → next.first ≡ earliest gs → (fold see next ds).first ≡ earliest (gs ++ rest))
        → (fold see (see s d) ds).first ≡ earliest (fs ++ ((if b then Twice d.place d.name ∷ [] else []) ++ rest))
    by_test true t go =
        let f : TypeFault = Twice d.place d.name in
        let next : Seen = record { names = s.names; first = earlier s.first (Some f) } in
        let is : see s d ≡ next = ap (λ b. if b then next else record { names = s.names ++ d.name ∷ []; first = s.first }) (k d.name ∙ t) in
        let first : earlier s.first (Some f) ≡ earliest (fs ++ f ∷ []) = ap (λ o. earlier o (Some f)) e ∙ (ap (earlier (earliest fs)) (sym (one_fault f)) ∙ sym (earliest_both fs (f ∷ []))) in
        ap (λ x. (fold see x ds).first) is ∙ (go next (fs ++ f ∷ []) (knows_old s before d k t) first ∙ ap earliest (append_assoc fs (f ∷ []) rest))
    by_test false t go =
        let next : Seen = record { names = s.names ++ d.name ∷ []; first = s.first } in
        let is : see s d ≡ next = ap (λ b. if b then record { names = s.names; first = earlier s.first (Some (Twice d.place d.name)) } else next) (k d.name ∙ t) in
        ap (λ x. (fold see x ds).first) is ∙ go next fs (knows_new s before d k) e

pub all_doubled : (ds : List Declaration) → (fold see nothing_seen ds).first ≡ earliest (doubled ds)
all_doubled ds = seen_doubled ds [] nothing_seen [] (λ m. refl) (sym no_fault)

pub any_of : {A B : Type 0} (f : A → B) (p : B → Bool) (xs : List A) → list_any (λ x. p (f x)) xs ≡ list_any p (map f xs)
any_of f p [] = refl
any_of f p (x ∷ xs) = ap (λ b. p (f x) || b) (any_of f p xs)

module _ {A : Type 0} (f : A → List ℕ) where
  -- a name that a scope has
  pub seen_again : (keys : List A) (first : Option TypeFault) (s : Seen) (d : Declaration) → record { names = map f keys; first = first } ≡ s → list_any (λ k. bytes_eq d.name (f k)) keys ≡ true
      → record { names = map f keys; first = earlier first (Some (Twice d.place d.name)) } ≡ see s d
  seen_again keys first s d view t =
      let next : Seen = record { names = map f keys; first = earlier first (Some (Twice d.place d.name)) } in
      let other : Seen = record { names = map f keys ++ d.name ∷ []; first = first } in
      let is : see (record { names = map f keys; first = first }) d ≡ next = ap (λ b. if b then next else other) (sym (any_of f (bytes_eq d.name) keys) ∙ t) in
      sym is ∙ ap (λ x. see x d) view

  -- a name that is new to it
  pub seen_first : (keys : List A) (k : A) (first : Option TypeFault) (s : Seen) (d : Declaration) → record { names = map f keys; first = first } ≡ s → f k ≡ d.name → list_any (λ y. bytes_eq d.name (f y)) keys ≡ false
      → record { names = map f (insert_key (λ x y. bytes_eq (f x) (f y)) keys k); first = first } ≡ see s d
  seen_first keys k first s d view same t =
      let next : Seen = record { names = map f keys ++ d.name ∷ []; first = first } in
      let other : Seen = record { names = map f keys; first = earlier first (Some (Twice d.place d.name)) } in
      let is : see (record { names = map f keys; first = first }) d ≡ next = ap (λ b. if b then other else next) (sym (any_of f (bytes_eq d.name) keys) ∙ t) in
      let absent : list_any (λ y. bytes_eq (f k) (f y)) keys ≡ false = subst (λ n. list_any (λ y. bytes_eq n (f y)) keys ≡ false) (sym same) t in
      let put : insert_key (λ x y. bytes_eq (f x) (f y)) keys k ≡ keys ++ k ∷ [] = ap (λ b. if b then keys else keys ++ k ∷ []) absent in
      let names : map f (insert_key (λ x y. bytes_eq (f x) (f y)) keys k) ≡ map f keys ++ d.name ∷ [] = ap (map f) put ∙ (map-append f keys (k ∷ []) ∙ ap (λ n. map f keys ++ n ∷ []) same) in
      ap (λ ns. record { names = ns; first = first }) names ∙ (sym is ∙ ap (λ x. see x d) view)

-- the first fault of all that each of some things has, with one more
pub first_on : {X Y : Type 0} (g : X → Y) (f : Y → List TypeFault) (xs : List X) (i : ℕ) (x : X) (so_far found next : Option TypeFault) → i < length xs → x ≡ get_or xs i x
    → so_far ≡ earliest (flat_map f (map g (take i xs))) → found ≡ earliest (f (g x)) → next ≡ earlier so_far found → next ≡ earliest (flat_map f (map g (take (i + 1) xs)))
first_on {X} {Y} g f xs i x so_far found next l at h k e =
    e ∙ (ap (λ o. earlier o found) h ∙ (ap (earlier (earliest front)) k ∙ (sym (earliest_both front (f (g x))) ∙ ap earliest (sym all))))
  where
    front : List TypeFault
    front = flat_map f (map g (take i xs))

    more : take (i + 1) xs ≡ take i xs ++ x ∷ []
    more = take_more xs i x l ∙ ap (λ y. take i xs ++ y ∷ []) (sym at)

    all : flat_map f (map g (take (i + 1) xs)) ≡ front ++ f (g x)
    all = ap (λ ys. flat_map f (map g ys)) more ∙ (ap (flat_map f) (map-append g (take i xs) (x ∷ [])) ∙ (flat_map-append f (map g (take i xs)) (g x ∷ []) ∙ ap (λ ys. front ++ ys) (append-nil (f (g x)))))
