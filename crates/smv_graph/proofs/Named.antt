-- Walks by number are walks by name.
use Rattle.std.proofs.Common.{◌≡◌, ◌+◌, ℕ, suc, Bool, true, false, cond, List, [], ◌∷◌, map, refl, ap, sym, ◌∙◌, subst, arith, inl, inr, position}
use Rattle.std.specs.Prelude.{◌⊎◌, Contains, Option, Some, None, filter_map, slice_get}
use Rattle.std.specs.List.{position_from, cons_option}
use Rattle.std.specs.Str.{bytes_eq}
use Rattle.std.proofs.lemmas.Slice.Eq.{bytes_eq-Decides}
use Rattle.std.proofs.lemmas.Iterator.Adapters.{position_from-zero}
use Rattle.smv_tree.specs.Models.{Body, Part, variable, define, assign, constraint, property, plain, instance}
use Rattle.smv_meaning.specs.Instances.{find_body, list_of}
use Rattle.smv_meaning.specs.Walks.{IsWalk}
use Rattle.smv_meaning.specs.ModuleCycles.{module_of, Instantiates}
use Rattle.smv_meaning.proofs.Lists.{contains_none, contains_cases, contains_first, contains_later, contains_filter_map, slice_get-map}
use Rattle.smv_graph.specs.Graph.{module_number, graph_of, row_of, Leads, Reaches, IsNumbered}

-- a module of the program, with its number
pub record IsLocated (program : List Body) (m : List ℕ) (k : ℕ) (b : Body) : Type 0 where
  pub numbered : IsNumbered program m k
  pub found : find_body m program ≡ Some b
  pub there : slice_get program k ≡ Some b
  pub name : b.name ≡ m

some_same : {X : Type 0} (a b : X) → Some a ≡ Some b → a ≡ b
some_same a b e = cc

-- a name stands nowhere, or first at a place
LocatedFrom : (m : List ℕ) (i : ℕ) (program : List Body) → Type 0
LocatedFrom m i program =
    ((position_from (λ b. bytes_eq b.name m) i program ≡ None) × (find_body m program ≡ None))
    ⊎ ((k : ℕ) × (b : Body) × (position_from (λ b. bytes_eq b.name m) i program ≡ Some (i + k)) × (find_body m program ≡ Some b) × (slice_get program k ≡ Some b) × (b.name ≡ m))

located_from : (m : List ℕ) (i : ℕ) (program : List Body) → LocatedFrom m i program
unfolding LocatedFrom
located_from m i [] = inl (refl, refl)
located_from m i (x ∷ xs) = by_test (bytes_eq x.name m) refl (located_from m (i + 1) xs)
  where
    by_test : (t : Bool) → bytes_eq x.name m ≡ t
        → ((position_from (λ b. bytes_eq b.name m) (i + 1) xs ≡ None) × (find_body m xs ≡ None))
        ⊎ ((k : ℕ) × (b : Body) × (position_from (λ b. bytes_eq b.name m) (i + 1) xs ≡ Some (i + 1 + k)) × (find_body m xs ≡ Some b) × (slice_get xs k ≡ Some b) × (b.name ≡ m))
        → ((cond t (Some i) (position_from (λ b. bytes_eq b.name m) (i + 1) xs) ≡ None) × (cond t (Some x) (find_body m xs) ≡ None))
        ⊎ ((k : ℕ) × (b : Body) × (cond t (Some i) (position_from (λ b. bytes_eq b.name m) (i + 1) xs) ≡ Some (i + k)) × (cond t (Some x) (find_body m xs) ≡ Some b) × (slice_get (x ∷ xs) k ≡ Some b) × (b.name ≡ m))
    by_test true h rest = inr (0, x, ap Some (omega arith), refl, refl, (bytes_eq-Decides x.name m).0 h)
    by_test false h (inl rest) = inl rest
    by_test false h (inr (k, b, p, f, s, n)) = inr (suc k, b, p ∙ ap Some (omega arith), f, s, n)

module _ (program : List Body) where
  pub located : (m : List ℕ) → ((position (λ b. bytes_eq b.name m) program ≡ None) × (find_body m program ≡ None)) ⊎ ((k : ℕ) × (b : Body) × IsLocated program m k b)
  unfolding LocatedFrom
  located m = elim (located_from m 0 program) [
    | inl none ↦ inl (position_from-zero (λ b. bytes_eq b.name m) program ∙ none.0, none.1)
    | inr (k, b, p, f, s, n) ↦ inr (k, b, record { numbered = position_from-zero (λ b. bytes_eq b.name m) program ∙ (p ∙ ap Some (omega arith)); found = f; there = s; name = n })
  ]

  -- the module of a number
  pub located_at : (m : List ℕ) (a : ℕ) → IsNumbered program m a → (b : Body) × IsLocated program m a b
  located_at m a e = elim (located m) [
    | inl none ↦ absurd (let no : position (λ b. bytes_eq b.name m) program ≡ None = none.0 in cc)
    | inr (k, b, l) ↦ (let same : k ≡ a = some_same k a (sym l.numbered ∙ e) in (b, subst (λ j. IsLocated program m j b) same l))
  ]

  -- one number is that of one name
  pub one_name : (m n : List ℕ) (a : ℕ) → IsNumbered program m a → IsNumbered program n a → m ≡ n
  one_name m n a d e =
      let x = located_at m a d in
      let y = located_at n a e in
      let same : x.0 ≡ y.0 = some_same x.0 y.0 (sym x.1.there ∙ y.1.there) in
      sym x.1.name ∙ (ap (λ b. b.name) same ∙ y.1.name)

  part_number : (part : Part) (n : List ℕ) → module_of part ≡ Some n → module_number program part ≡ position (λ b. bytes_eq b.name n) program
  part_number (variable k x p (plain t q)) n e = absurd (cc)
  part_number (variable k x p (instance m q es)) n e = ap (λ o. position (λ b. bytes_eq b.name o) program) (some_same m n e)
  part_number (define x p t) n e = absurd (cc)
  part_number (assign k x p t) n e = absurd (cc)
  part_number (constraint s p t) n e = absurd (cc)
  part_number (property x p t) n e = absurd (cc)

  number_part : (part : Part) (b : ℕ) → module_number program part ≡ Some b → (n : List ℕ) × (module_of part ≡ Some n) × IsNumbered program n b
  number_part (variable k x p (plain t q)) b e = absurd (cc)
  number_part (variable k x p (instance m q es)) b e = (m, refl, e)
  number_part (define x p t) b e = absurd (cc)
  number_part (assign k x p t) b e = absurd (cc)
  number_part (constraint s p t) b e = absurd (cc)
  number_part (property x p t) b e = absurd (cc)

  parts_down : (parts : List Part) (n : List ℕ) (b : ℕ) → IsNumbered program n b → Contains (filter_map module_of parts) n → Contains (map (module_number program) parts) (Some b)
  parts_down [] n b e c = absurd (contains_none n c)
  parts_down (part ∷ parts) n b e c = by_module (module_of part) refl c (parts_down parts n b e)
    where
      rest : List (Option ℕ)
      rest = map (module_number program) parts

      by_module : (o : Option (List ℕ)) → module_of part ≡ o → Contains (cons_option o (filter_map module_of parts)) n → (Contains (filter_map module_of parts) n → Contains rest (Some b)) → Contains (module_number program part ∷ rest) (Some b)
      by_module None h c go = contains_later (module_number program part) rest (Some b) (go c)
      by_module (Some m) h c go = elim (contains_cases m (filter_map module_of parts) n c) [
        | inl same ↦ subst (Contains (module_number program part ∷ rest)) (part_number part m h ∙ (ap (λ o. position (λ x. bytes_eq x.name o) program) same ∙ e)) (contains_first (module_number program part) rest)
        | inr d ↦ contains_later (module_number program part) rest (Some b) (go d)
      ]

  row_there : (a : ℕ) (b : Body) → slice_get program a ≡ Some b → row_of (graph_of program) a ≡ map (module_number program) b.parts
  row_there a b e = ap (list_of (λ row. row)) (slice_get-map (λ x. map (module_number program) x.parts) program a b e)

  pub step_down : (m n : List ℕ) (a b : ℕ) → IsNumbered program m a → IsNumbered program n b → Instantiates program m n → Leads (graph_of program) a b
  step_down m n a b d e i =
      let l = located_at m a d in
      let c = subst (λ o. Contains (list_of (λ x. filter_map module_of x.parts) o) n) l.1.found i in
      subst (λ row. Contains row (Some b)) (sym (row_there a l.0 l.1.there)) (parts_down l.0.parts n b e c)

  from_row : (parts : List Part) (b : ℕ) → Contains (map (module_number program) parts) (Some b) → (part : Part) × Contains parts part × (module_number program part ≡ Some b)
  from_row [] b c = absurd (contains_none (Some b) c)
  from_row (part ∷ parts) b c = elim (contains_cases (module_number program part) (map (module_number program) parts) (Some b) c) [
    | inl e ↦ (part, contains_first part parts, e)
    | inr d ↦ (let r = from_row parts b d in (r.0, contains_later part parts r.0 r.1, r.2))
  ]

  pub step_up : (m : List ℕ) (a b : ℕ) → IsNumbered program m a → Leads (graph_of program) a b → (n : List ℕ) × IsNumbered program n b × Instantiates program m n
  step_up m a b d i =
      let l = located_at m a d in
      let r = from_row l.0.parts b (subst (λ row. Contains row (Some b)) (row_there a l.0 l.1.there) i) in
      let n = number_part r.0 b r.2 in
      (n.0, n.2, subst (λ o. Contains (list_of (λ x. filter_map module_of x.parts) o) n.0) (sym l.1.found) (contains_filter_map module_of l.0.parts r.0 n.0 r.1 n.1))

  -- what has an instance is declared
  leads_on : (m n : List ℕ) → Instantiates program m n → (a : ℕ) × IsNumbered program m a
  leads_on m n i = elim (located m) [
    | inl none ↦ absurd (contains_none n (subst (λ o. Contains (list_of (λ x. filter_map module_of x.parts) o) n) none.1 i))
    | inr (k, b, l) ↦ (k, l.numbered)
  ]

  pub walk_starts : (m : List ℕ) (xs : List (List ℕ)) (n : List ℕ) → IsWalk (Instantiates program) m xs n → (a : ℕ) × IsNumbered program m a
  walk_starts m [] n w = leads_on m n w
  walk_starts m (x ∷ xs) n w = leads_on m x w.0

  pub walk_down : (m : List ℕ) (xs : List (List ℕ)) (n : List ℕ) (a b : ℕ) → IsNumbered program m a → IsNumbered program n b → IsWalk (Instantiates program) m xs n → Reaches (graph_of program) a b
  walk_down m [] n a b d e w = ([], step_down m n a b d e w)
  walk_down m (x ∷ xs) n a b d e w =
      let s = walk_starts x xs n w.1 in
      let r = walk_down x xs n s.0 b s.1 e w.1 in
      (s.0 ∷ r.0, (step_down m x a s.0 d s.1 w.0, r.1))

  pub walk_up : (m : List ℕ) (a : ℕ) (ys : List ℕ) (b : ℕ) → IsNumbered program m a → IsWalk (Leads (graph_of program)) a ys b → (n : List ℕ) × IsNumbered program n b × ((xs : List (List ℕ)) × IsWalk (Instantiates program) m xs n)
  walk_up m a [] b d w = let s = step_up m a b d w in (s.0, s.1, ([], s.2))
  walk_up m a (y ∷ ys) b d w =
      let s = step_up m a y d w.0 in
      let r = walk_up s.0 y ys b s.1 w.1 in
      (r.0, r.1, (s.0 ∷ r.2.0, (s.2, r.2.1)))

  pub named_walk : (m n : List ℕ) (a b : ℕ) → IsNumbered program m a → IsNumbered program n b → Reaches (graph_of program) a b → (xs : List (List ℕ)) × IsWalk (Instantiates program) m xs n
  named_walk m n a b d e r =
      let up = walk_up m a r.0 b d r.1 in
      let same : up.0 ≡ n = one_name up.0 n b up.1 e in
      (up.2.0, subst (λ o. IsWalk (Instantiates program) m up.2.0 o) same up.2.1)
