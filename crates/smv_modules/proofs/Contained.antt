-- Modules that contain themselves, by number.
use Rattle.std.proofs.Common.{◌≡◌, ◌<◌, ◌≤◌, ◌+◌, ℕ, zero, suc, Bool, true, false, cond, List, [], ◌∷◌, length, map, sym, ◌∙◌, subst, arith, inl, inr}
use Rattle.std.specs.Prelude.{◌⊎◌, Some, codes, slice_get}
use Rattle.std.specs.List.{position_from}
use Rattle.std.specs.Str.{bytes_eq}
use Rattle.std.proofs.lemmas.Option.{slice_get_within}
use Rattle.std.proofs.lemmas.Slice.Eq.{bytes_eq-Decides}
use Rattle.std.proofs.lemmas.Iterator.Adapters.{position_from-zero}
use Rattle.smv_tree.specs.Models.{Body}
use Rattle.smv_meaning.specs.Instances.{find_body}
use Rattle.smv_meaning.specs.Walks.{IsOnCycle}
use Rattle.smv_meaning.specs.ModuleCycles.{ContainsItself, HasModuleCycle, module_names}
use Rattle.smv_meaning.proofs.Lists.{slice_get-map}
use Rattle.smv_graph.specs.Graph.{graph_of, Leads, IsNumbered}
use Rattle.smv_graph.proofs.Named.{located_at, named_walk, walk_down, walk_up, walk_starts}
use Rattle.smv_modules.specs.Counts.{IsReachedNumber}
use Rattle.smv_modules.specs.Contained.{IsFirstContained}
use Rattle.smv_modules.proofs.Reached.{number_reached, reached_number}
use Rattle.smv_modules.proofs.Listing.{some_same}

-- no place of a name is before the first
pub first_from : (m : List ℕ) (i : ℕ) (bs : List Body) (j a : ℕ) → slice_get (map (λ b. b.name) bs) j ≡ Some m → position_from (λ b. bytes_eq b.name m) i bs ≡ Some a → a ≤ i + j
first_from m i [] j a e f = absurd (cc)
first_from m i (x ∷ bs) zero a e f =
    let same : x.name ≡ m = some_same x.name m e in
    let test : bytes_eq x.name m ≡ true = (bytes_eq-Decides x.name m).1 same in
    let here : Some i ≡ Some a = subst (λ t. cond t (Some i) (position_from (λ b. bytes_eq b.name m) (i + 1) bs) ≡ Some a) test f in
    let at_it : i ≡ a = some_same i a here in
    omega (arith, at_it)
first_from m i (x ∷ bs) (suc j) a e f = by_test (bytes_eq x.name m) f (first_from m (i + 1) bs j a e)
  where
    by_test : (t : Bool) → cond t (Some i) (position_from (λ b. bytes_eq b.name m) (i + 1) bs) ≡ Some a
        → (position_from (λ b. bytes_eq b.name m) (i + 1) bs ≡ Some a → a ≤ i + 1 + j) → a ≤ i + suc j
    by_test true g rest = let at_it : i ≡ a = some_same i a g in omega (arith, at_it)
    by_test false g rest = let h : a ≤ i + 1 + j = rest g in omega (arith, h)

module _ (program : List Body) where
  -- main reaches the module of a number, and it contains itself
  abbrev pub IsContained : ℕ → Type 0
  IsContained k = IsReachedNumber program k × IsOnCycle (Leads (graph_of program)) k

  -- what is reached has a name
  reached_named : (k : ℕ) → IsReachedNumber program k → (m : List ℕ) × IsNumbered program m k
  reached_named k (main, e, inl same) = (codes "main", subst (IsNumbered program (codes "main")) (sym same) e)
  reached_named k (main, e, inr r) = let up = walk_up program (codes "main") main r.0 k e r.1 in (up.0, up.1)

  number_contains : (m : List ℕ) (k : ℕ) → IsNumbered program m k → IsContained k → ContainsItself program m
  number_contains m k d h = (number_reached program m k d h.0, named_walk program m m k k d d h.1)

  contains_number : (m : List ℕ) (k : ℕ) → IsNumbered program m k → ContainsItself program m → IsContained k
  contains_number m k d h = (reached_number program m k d h.0, walk_down program m h.1.0 m k k d d h.1.1)

  pub none_contained : (n : ℕ) → length program ≤ n → ((j : ℕ) → j < n → IsContained j → ⊥) → HasModuleCycle program → ⊥
  none_contained n l none (m, h) =
      let s = walk_starts program m h.1.0 m h.1.1 in
      let at_it = located_at program m s.0 s.1 in
      let below : s.0 < length program = slice_get_within program s.0 at_it.0 at_it.1.there in
      none s.0 (omega (arith, below, l)) (contains_number m s.0 s.1 h)

  pub first_is_contained : (k : ℕ) → ((j : ℕ) → j < k → IsContained j → ⊥) → IsContained k → IsFirstContained program k
  first_is_contained k none h =
      let named = reached_named k h.0 in
      let l = located_at program named.0 k named.1 in
      record {
        first = l.0;
        there = l.1.there;
        numbered = subst (λ n. IsNumbered program n k) (sym l.1.name) named.1;
        found = subst (λ n. find_body n program ≡ Some l.0) (sym l.1.name) l.1.found;
        through = record {
          number = k;
          stands = slice_get-map (λ b. b.name) program k l.0 l.1.there;
          so = subst (ContainsItself program) (sym l.1.name) (number_contains named.0 k named.1 h);
          none_before = before;
        };
      }
    where
      before : (j : ℕ) (n : List ℕ) → j < k → slice_get (module_names program) j ≡ Some n → ContainsItself program n → ⊥
      before j n less e c =
          let s = walk_starts program n c.1.0 n c.1.1 in
          let early : s.0 ≤ 0 + j = first_from n 0 program j s.0 e (sym (position_from-zero (λ b. bytes_eq b.name n) program) ∙ s.1) in
          none s.0 (omega (arith, early, less)) (contains_number n s.0 s.1 c)

  -- one number more that is not contained
  pub contained_more : (k : ℕ) → ((j : ℕ) → j < k → IsContained j → ⊥) → (IsContained k → ⊥) → (j : ℕ) → j < k + 1 → IsContained j → ⊥
  contained_more k none last j l h = elim (cases j k l) [ inl less ↦ none j less h | inr same ↦ last (subst IsContained same h) ]
    where
      cases : (j k : ℕ) → j < k + 1 → (j < k) ⊎ (j ≡ k)
      cases j k l = grind arith
