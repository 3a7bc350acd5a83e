-- Where no module contains itself, no instance lies deeper than there are modules.
use Rattle.std.proofs.Common.{◌≡◌, ◌≤◌, ℕ, zero, suc, List, [], ◌∷◌, ◌++◌, length, refl, ap, sym, subst, arith, inl, inr, Bool, true, false, cond, ◌+◌, map}
use Rattle.std.specs.Prelude.{Contains, Option, Some, None, codes, flat_map, filter_map}
use Rattle.std.specs.Cmp.{IsEquivalence}
use Rattle.std.specs.List.{AllByRecursion, IsDistinct}
use Rattle.std.specs.Str.{bytes_eq}
use Rattle.std.proofs.lemmas.Bool.Decides.{same_from_decides}
use Rattle.std.proofs.lemmas.List.{length-map}
use Rattle.std.proofs.lemmas.Map.Made.{length-le_from_is_member, is_member-Decides}
use Rattle.std.proofs.lemmas.Slice.Eq.{bytes_eq-Decides}
use Rattle.smv_tree.specs.Trees.{Tree}
use Rattle.smv_tree.specs.Models.{Body, Part, variable, define, assign, constraint, property, plain, instance}
use Rattle.smv_meaning.specs.Instances.{Entry, is_instance, find_body, list_of, part_entries, entries_below, entries}
use Rattle.smv_meaning.specs.Walks.{IsWalk}
use Rattle.smv_meaning.specs.ModuleCycles.{module_of, Instantiates, IsReached, HasModuleCycle, module_names}
use Rattle.smv_meaning.proofs.Lists.{contains_none, contains_cases, contains_first, contains_later, contains_filter_map}
use Rattle.smv_meaning.proofs.Orders.{walk_on}

-- lists are the same where what they are made of is
same_flat_map : {X Y : Type 0} (f g : X → List Y) (xs : List X) → ((x : X) → Contains xs x → f x ≡ g x) → flat_map f xs ≡ flat_map g xs
same_flat_map f g [] h = refl
same_flat_map f g (x ∷ xs) h =
    let here : f x ≡ g x = h x (contains_first x xs) in
    let there : flat_map f xs ≡ flat_map g xs = same_flat_map f g xs (λ y c. h y (contains_later x xs y c)) in
    cc

names_equivalence : IsEquivalence bytes_eq
names_equivalence = record {
  refl = λ x. (bytes_eq-Decides x x).1 refl;
  symm = λ x y. same_from_decides (bytes_eq x y) (bytes_eq y x) (bytes_eq-Decides x y) (λ e. sym ((bytes_eq-Decides y x).0 e), λ e. (bytes_eq-Decides y x).1 (sym e));
  congr = λ x y z e. ap (λ w. bytes_eq w z) ((bytes_eq-Decides x y).0 e);
}

-- a module that is found is declared
found_declared : (m : List ℕ) (bs : List Body) (b : Body) → find_body m bs ≡ Some b → Contains (map (λ c. c.name) bs) m
found_declared m [] b e = absurd (cc)
found_declared m (c ∷ bs) b e = by_test (bytes_eq c.name m) refl e (found_declared m bs b)
  where
    by_test : (t : Bool) → bytes_eq c.name m ≡ t → cond t (Some c) (find_body m bs) ≡ Some b → (find_body m bs ≡ Some b → Contains (map (λ d. d.name) bs) m) → Contains (c.name ∷ map (λ d. d.name) bs) m
    by_test true h e rest = subst (Contains (c.name ∷ map (λ d. d.name) bs)) ((bytes_eq-Decides c.name m).0 h) (contains_first c.name (map (λ d. d.name) bs))
    by_test false h e rest = contains_later c.name (map (λ d. d.name) bs) m (rest e)

-- a name that is not in a list differs from each
all_apart : (m : List ℕ) (ms : List (List ℕ)) → (Contains ms m → ⊥) → AllByRecursion (λ n. bytes_eq m n ≡ false) ms
all_apart m [] none = tt
all_apart m (n ∷ ms) none = by_test (bytes_eq m n) refl (all_apart m ms (λ c. none (contains_later n ms m c)))
  where
    by_test : (t : Bool) → bytes_eq m n ≡ t → AllByRecursion (λ o. bytes_eq m o ≡ false) ms → AllByRecursion (λ o. bytes_eq m o ≡ false) (n ∷ ms)
    by_test true h rest = absurd (none (subst (Contains (n ∷ ms)) (sym ((bytes_eq-Decides m n).0 h)) (contains_first n ms)))
    by_test false h rest = (h, rest)

module _ (program : List Body) where
  -- a depth of k brings all that a module has
  abbrev Enough : ℕ → List ℕ → Type 0
  Enough k m = (n : ℕ) (path up : List (List ℕ)) (actuals : List Tree) → k ≤ n → entries_below n program path up m actuals ≡ entries_below k program path up m actuals

  same_part : (n k : ℕ) (path up : List (List ℕ)) (part : Part) → ((m : List ℕ) → module_of part ≡ Some m → Enough k m) → k ≤ n → part_entries (entries_below n program) path up part ≡ part_entries (entries_below k program) path up part
  same_part n k path up (variable kind x p (plain type q)) h l = refl
  same_part n k path up (variable kind x p (instance m q actuals)) h l = h m refl n (path ++ x ∷ []) (x ∷ up) actuals l
  same_part n k path up (define x p e) h l = refl
  same_part n k path up (assign when x p e) h l = refl
  same_part n k path up (constraint section p e) h l = refl
  same_part n k path up (property x p f) h l = refl

  -- one more than is enough for the modules of its instances
  enough_next : (k : ℕ) (m : List ℕ) → ((n : List ℕ) → Instantiates program m n → Enough k n) → Enough (suc k) m
  enough_next k m h zero path up actuals l = absurd (omega arith)
  enough_next k m h (suc n) path up actuals l = by_body (find_body m program) refl
    where
      parts_at : ℕ → Body → List Entry
      parts_at depth body = flat_map (part_entries (entries_below depth program) path up) body.parts

      by_body : (o : Option Body) → find_body m program ≡ o
          → list_of (λ body. is_instance (record { path = path; up = up; body = body; actuals = actuals }) ∷ parts_at n body) o
          ≡ list_of (λ body. is_instance (record { path = path; up = up; body = body; actuals = actuals }) ∷ parts_at k body) o
      by_body None e = refl
      by_body (Some body) e =
          ap (λ es. is_instance (record { path = path; up = up; body = body; actuals = actuals }) ∷ es)
          (same_flat_map (part_entries (entries_below n program) path up) (part_entries (entries_below k program) path up) body.parts (λ part c.
          same_part n k path up part (λ i j.
          h i (subst (λ o. Contains (list_of (λ b. filter_map module_of b.parts) o) i) (sym e) (contains_filter_map module_of body.parts part i c j))) (omega arith)))

  -- a module that is not declared brings nothing
  undeclared : (m : List ℕ) → (Contains (module_names program) m → ⊥) → (n : ℕ) (path up : List (List ℕ)) (actuals : List Tree) → entries_below n program path up m actuals ≡ []
  undeclared m none zero path up actuals = refl
  undeclared m none (suc n) path up actuals = by_body (find_body m program) refl
    where
      by_body : (o : Option Body) → find_body m program ≡ o
          → list_of (λ body. is_instance (record { path = path; up = up; body = body; actuals = actuals }) ∷ flat_map (part_entries (entries_below n program) path up) body.parts) o ≡ []
      by_body None e = refl
      by_body (Some body) e = absurd (none (found_declared m program body e))

  -- a module that has an instance is declared
  user_declared : (m n : List ℕ) → Instantiates program m n → Contains (module_names program) m
  user_declared m n i = by_body (find_body m program) refl i
    where
      by_body : (o : Option Body) → find_body m program ≡ o → Contains (list_of (λ b. filter_map module_of b.parts) o) n → Contains (module_names program) m
      by_body None e c = absurd (contains_none n c)
      by_body (Some body) e c = found_declared m program body e

  -- of declared modules, each once, there are no more than are declared
  few : (ms : List (List ℕ)) → IsDistinct bytes_eq ms → ((o : List ℕ) → Contains ms o → Contains (module_names program) o) → length ms ≤ length program
  few ms once declared =
      let tells = is_member-Decides bytes_eq-Decides in
      let h : length ms ≤ length (module_names program) =
      length-le_from_is_member names_equivalence ms (module_names program) once (λ q t. (tells (module_names program) q).1 (declared q ((tells ms q).0 t))) in
      subst (λ n. length ms ≤ n) (length-map program (λ b. b.name)) h

  -- a walk leads from one module to another
  abbrev ComesTo : List ℕ → List ℕ → Type 0
  ComesTo o m = (xs : List (List ℕ)) × IsWalk (Instantiates program) o xs m

  -- declared modules that come to this one, each once
  record Visited (m : List ℕ) (ms : List (List ℕ)) : Type 0 where
    once : IsDistinct bytes_eq ms
    declared : (o : List ℕ) → Contains ms o → Contains (module_names program) o
    comes : (o : List ℕ) → Contains ms o → ComesTo o m

  pub reach_on : (m n : List ℕ) → IsReached program m → Instantiates program m n → IsReached program n
  reach_on m n (inl e) i = inr ([], subst (λ x. Instantiates program x n) e i)
  reach_on m n (inr (xs, w)) i = inr (xs ++ m ∷ [], walk_on (Instantiates program) (codes "main") xs m n w i)

  with_declared : (m : List ℕ) (ms : List (List ℕ)) → Visited m ms → Contains (module_names program) m → (o : List ℕ) → Contains (m ∷ ms) o → Contains (module_names program) o
  with_declared m ms v d o c = elim (contains_cases m ms o c) [ inl e ↦ subst (Contains (module_names program)) e d | inr h ↦ v.declared o h ]

  module _ (none : HasModuleCycle program → ⊥) where
    with_once : (m : List ℕ) (ms : List (List ℕ)) → IsReached program m → Visited m ms → IsDistinct bytes_eq (m ∷ ms)
    unfolding IsDistinct
    with_once m ms reached v = (all_apart m ms (λ c. none (m, (reached, v.comes m c))), v.once)

    visit : (m n : List ℕ) (ms : List (List ℕ)) → IsReached program m → Visited m ms → Instantiates program m n → Visited n (m ∷ ms)
    visit m n ms reached v i = record {
      once = with_once m ms reached v;
      declared = with_declared m ms v (user_declared m n i);
      comes = λ o c. elim (contains_cases m ms o c) [
        | inl e ↦ subst (λ x. ComesTo x n) e ([], i)
        | inr h ↦ (let w = v.comes o h in (w.0 ++ m ∷ [], walk_on (Instantiates program) o w.0 m n w.1 i))
      ];
    }

    -- as many levels are enough as there are modules besides those that come to it
    deep_enough : (k : ℕ) (m : List ℕ) (ms : List (List ℕ)) → IsReached program m → Visited m ms → length program ≤ k + length ms → Enough k m
    deep_enough zero m ms reached v l =
        λ n path up actuals h. undeclared m (λ d. let f : length (m ∷ ms) ≤ length program = few (m ∷ ms) (with_once m ms reached v) (with_declared m ms v d) in omega arith) n path up actuals
    deep_enough (suc k) m ms reached v l = enough_next k m (λ n i. deep_enough k n (m ∷ ms) (reach_on m n reached i) (visit m n ms reached v i) (omega arith))

    -- for a module that is reached, as many levels are enough as there are modules
    pub entries_enough : (m : List ℕ) → IsReached program m → Enough (length program) m
    unfolding IsDistinct
    entries_enough m reached =
        let start : Visited m [] = record { once = tt; declared = λ o c. absurd (contains_none o c); comes = λ o c. absurd (contains_none o c) } in
        deep_enough (length program) m [] reached start (omega arith)

    pub all_entries : (n : ℕ) → length program ≤ n → entries_below n program [] [] (codes "main") [] ≡ entries program
    all_entries n l = entries_enough (codes "main") (inl refl) n [] [] [] l
