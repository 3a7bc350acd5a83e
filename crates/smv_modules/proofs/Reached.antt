-- Which modules main reaches, by number and by name.
use Rattle.std.proofs.Common.{◌≡◌, ℕ, zero, suc, Bool, true, false, cond, List, [], ◌∷◌, ◌++◌, flat_map, refl, ap, sym, ◌∙◌, subst, inl, inr, eqb}
use Rattle.std.specs.Prelude.{◌⊎◌, ◌↔◌, Contains, Option, Some, None, codes, slice_get, if◌then◌else◌}
use Rattle.std.specs.List.{list_any}
use Rattle.std.specs.Str.{bytes_eq}
use Rattle.std.proofs.lemmas.Bool.{eqb-true}
use Rattle.std.proofs.lemmas.List.{append-nil}
use Rattle.std.proofs.lemmas.Grind.{flat_map-append}
use Rattle.std.proofs.lemmas.List.Elements.{Contains-append_left, Contains-push_cases}
use Rattle.std.proofs.lemmas.Slice.Eq.{bytes_eq-Decides}
use Rattle.indexmap.specs.IndexSet.{insert_key}
use Rattle.indexmap.proofs.CallerLemmas.{Contains-insert_key}
use Rattle.smv_tree.specs.Models.{Body}
use Rattle.smv_meaning.specs.Instances.{find_body}
use Rattle.smv_meaning.specs.ModuleCycles.{IsReached}
use Rattle.smv_meaning.proofs.Lists.{contains_none, contains_cases}
use Rattle.smv_graph.specs.Graph.{graph_of, Reaches, IsNumbered}
use Rattle.smv_graph.proofs.Named.{located, one_name, named_walk, walk_down, walk_starts}
use Rattle.type_fault.specs.declared.fault.TypeFault.{TypeFault}
use Rattle.type_fault.specs.First.{earlier, earliest}
use Rattle.type_fault.proofs.Firsts.{earliest_both}
use Rattle.smv_modules.specs.References.{AreThoseOf, references_in}
use Rattle.smv_modules.specs.Counts.{IsReachedNumber, IsFaultIfReached}
use Rattle.smv_modules.proofs.Doubles.{no_fault}

-- those of a list with one more element
those_with : {A : Type 0} (holds : A → Type 0) (xs some : List A) (x : A) → AreThoseOf holds xs some → holds x → AreThoseOf holds (xs ++ x ∷ []) (some ++ x ∷ [])
those_with holds [] some x e h = inl (h, ([], ap (λ l. l ++ x ∷ []) e, refl))
those_with holds (y ∷ ys) some x (inl (g, (rest, e, t))) h = inl (g, (rest ++ x ∷ [], ap (λ l. l ++ x ∷ []) e, those_with holds ys rest x t h))
those_with holds (y ∷ ys) some x (inr (n, t)) h = inr (n, those_with holds ys some x t h)

those_without : {A : Type 0} (holds : A → Type 0) (xs some : List A) (x : A) → AreThoseOf holds xs some → (holds x → ⊥) → AreThoseOf holds (xs ++ x ∷ []) some
those_without holds [] some x e n = inr (n, e)
those_without holds (y ∷ ys) some x (inl (g, (rest, e, t))) n = inl (g, (rest, e, those_without holds ys rest x t n))
those_without holds (y ∷ ys) some x (inr (m, t)) n = inr (m, those_without holds ys some x t n)

-- the modules that were looked at, and the first fault of those of them that main reaches
pub record AreLookedAt (program some : List Body) (first : Option TypeFault) : Type 0 where
  pub reached : List Body
  pub are_reached : AreThoseOf (λ b. IsReached program b.name) some reached
  pub first_is : first ≡ earliest (flat_map (references_in program) reached)

pub none_looked_at : (program : List Body) → AreLookedAt program [] None
none_looked_at program = record { reached = []; are_reached = refl; first_is = sym no_fault }

pub looked_at_more : (program some : List Body) (b : Body) (first found next : Option TypeFault) → AreLookedAt program some first → IsFaultIfReached program b found → next ≡ earlier first found → AreLookedAt program (some ++ b ∷ []) next
looked_at_more program some b first found next l (inl (r, e)) n = record {
  reached = l.reached ++ b ∷ [];
  are_reached = those_with (λ x. IsReached program x.name) some l.reached b l.are_reached r;
  first_is =
      n ∙ (ap (λ o. earlier o found) l.first_is ∙ (ap (earlier (earliest (flat_map (references_in program) l.reached))) e
      ∙ (sym (earliest_both (flat_map (references_in program) l.reached) (references_in program b))
      ∙ ap earliest (sym (flat_map-append (references_in program) l.reached (b ∷ []) ∙ ap (λ ys. flat_map (references_in program) l.reached ++ ys) (append-nil (references_in program b)))))));
}
looked_at_more program some b first found next l (inr (r, e)) n = record {
  reached = l.reached;
  are_reached = those_without (λ x. IsReached program x.name) some l.reached b l.are_reached r;
  first_is = n ∙ (ap (earlier first) e ∙ (or_none first ∙ l.first_is));
}
  where
    or_none : (o : Option TypeFault) → earlier o None ≡ o
    or_none None = refl
    or_none (Some f) = refl

-- a set of numbers with one more
pub inserted_cases : (keys : List ℕ) (v b : ℕ) → Contains (insert_key eqb keys v) b → Contains keys b ⊎ (v ≡ b)
inserted_cases keys v b c = by_there (list_any (eqb v) keys) c
  where
    by_there : (t : Bool) → Contains (if t then keys else keys ++ v ∷ []) b → Contains keys b ⊎ (v ≡ b)
    by_there true d = inl d
    by_there false d = Contains-push_cases keys v b d

pub inserted_there : (keys : List ℕ) (v b : ℕ) → Contains keys b ⊎ (v ≡ b) → Contains (insert_key eqb keys v) b
inserted_there keys v b (inr e) = subst (Contains (insert_key eqb keys v)) e (Contains-insert_key eqb eqb-true keys v)
inserted_there keys v b (inl c) = by_there (list_any (eqb v) keys)
  where
    by_there : (t : Bool) → Contains (if t then keys else keys ++ v ∷ []) b
    by_there true = c
    by_there false = Contains-append_left keys (v ∷ []) b c

-- an element stands at a place
pub contained_at : {X : Type 0} (xs : List X) (x : X) → Contains xs x → (k : ℕ) × (slice_get xs k ≡ Some x)
contained_at [] x c = absurd (contains_none x c)
contained_at {X} (y ∷ ys) x c = by_place (contains_cases y ys x c) (contained_at ys x)
  where
    by_place : (y ≡ x) ⊎ Contains ys x → (Contains ys x → (k : ℕ) × (slice_get ys k ≡ Some x)) → (k : ℕ) × (slice_get (y ∷ ys) k ≡ Some x)
    by_place (inl e) go = (0, ap Some e)
    by_place (inr d) go = let r = go d in (suc r.0, r.1)

module _ (program : List Body) where
  -- a declared name has a number
  declared_found : (bs : List Body) (i : ℕ) (b : Body) → slice_get bs i ≡ Some b → find_body b.name bs ≡ None → ⊥
  declared_found [] i b e f = absurd (cc)
  declared_found (x ∷ xs) zero b e f = by_test (bytes_eq x.name b.name) refl f
    where
      by_test : (t : Bool) → bytes_eq x.name b.name ≡ t → cond t (Some x) (find_body b.name xs) ≡ None → ⊥
      by_test true h g = cc
      by_test false h g = let same : x ≡ b = cc in let own : bytes_eq x.name b.name ≡ true = (bytes_eq-Decides x.name b.name).1 (ap (λ y. y.name) same) in cc
  declared_found (x ∷ xs) (suc i) b e f = by_test (bytes_eq x.name b.name) f (declared_found xs i b e)
    where
      by_test : (t : Bool) → cond t (Some x) (find_body b.name xs) ≡ None → (find_body b.name xs ≡ None → ⊥) → ⊥
      by_test true g go = cc
      by_test false g go = go g

  pub declared_numbered : (i : ℕ) (b : Body) → slice_get program i ≡ Some b → (k : ℕ) × IsNumbered program b.name k
  declared_numbered i b e = elim (located program b.name) [ inl none ↦ absurd (declared_found program i b e none.1) | inr (k, c, l) ↦ (k, l.numbered) ]

  pub number_reached : (m : List ℕ) (a : ℕ) → IsNumbered program m a → IsReachedNumber program a → IsReached program m
  number_reached m a d (main, e, inl same) = inl (one_name program m (codes "main") main (subst (IsNumbered program m) same d) e)
  number_reached m a d (main, e, inr r) = inr (named_walk program (codes "main") m main a e d r)

  pub reached_number : (m : List ℕ) (a : ℕ) → IsNumbered program m a → IsReached program m → IsReachedNumber program a
  reached_number m a d (inl same) = (a, subst (λ n. IsNumbered program n a) same d, inl refl)
  reached_number m a d (inr (xs, w)) = let s = walk_starts program (codes "main") xs m w in (s.0, s.1, inr (walk_down program (codes "main") xs m s.0 a s.1 d w))

  -- what main reaches, with main
  pub all_reached : (graph : List (List (Option ℕ))) (main : ℕ) (keys new : List ℕ) → graph ≡ graph_of program → IsNumbered program (codes "main") main → ((b : ℕ) → Contains keys b ↔ Reaches graph main b) → new ≡ insert_key eqb keys main
      → (a : ℕ) → Contains new a ↔ IsReachedNumber program a
  all_reached graph main keys new g d reached put a = (down, up)
    where
      down : Contains new a → IsReachedNumber program a
      down c = elim (inserted_cases keys main a (subst (λ l. Contains l a) put c)) [
        | inl old ↦ (main, d, inr (subst (λ h. Reaches h main a) g ((reached a).0 old)))
        | inr same ↦ (main, d, inl (sym same))
      ]

      same_main : (other : ℕ) → IsNumbered program (codes "main") other → other ≡ main
      same_main other e = let h : Some other ≡ Some main = sym e ∙ d in cc

      up : IsReachedNumber program a → Contains new a
      up (other, e, inl same) = subst (λ l. Contains l a) (sym put) (inserted_there keys main a (inr (sym (same ∙ same_main other e))))
      up (other, e, inr r) = subst (λ l. Contains l a) (sym put) (inserted_there keys main a (inl ((reached a).1 (subst (λ h. Reaches h main a) (sym g) (subst (λ k. Reaches (graph_of program) k a) (same_main other e) r)))))
