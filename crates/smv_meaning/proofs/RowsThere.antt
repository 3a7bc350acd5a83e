-- Each instance has a row.
use Rattle.std.proofs.Common.{◌≡◌, ◌+◌, ℕ, suc, Bool, true, false, cond, List, [], ◌∷◌, ◌++◌, length, refl, ap, sym, ◌∙◌, subst, arith, inl, inr, position}
use Rattle.std.specs.Prelude.{Contains, Some, ◌⊎◌, codes, filter_map, slice_get}
use Rattle.std.specs.List.{AllZip, position_from}
use Rattle.std.specs.Str.{bytes_eq}
use Rattle.std.proofs.lemmas.Slice.Eq.{bytes_eq-Decides}
use Rattle.std.proofs.lemmas.Iterator.Adapters.{position_from-zero}
use Rattle.smv_tree.specs.Models.{Body}
use Rattle.smv_meaning.specs.Instances.{Instance, Entry, is_instance, is_variable, instance_of, entries, instances, find_body}
use Rattle.smv_meaning.specs.Definitions.{outer}
use Rattle.smv_meaning.specs.Rows.{Row, IsNumber, IsRow, AreRows, IsMain, IsBehind}
use Rattle.smv_meaning.proofs.Lists.{contains_none, contains_cases, contains_later, contains_first, contains_filter_map}
use Rattle.smv_meaning.proofs.Parents.{StandsIn, all_stand}

found_name : (m : List ℕ) (program : List Body) (b : Body) → find_body m program ≡ Some b → b.name ≡ m
found_name m [] b e = absurd (cc)
found_name m (x ∷ xs) b e = by_test (bytes_eq x.name m) refl e (found_name m xs b)
  where
    by_test : (t : Bool) → bytes_eq x.name m ≡ t → cond t (Some x) (find_body m xs) ≡ Some b → (find_body m xs ≡ Some b → b.name ≡ m) → b.name ≡ m
    by_test true h e rest = let same : x ≡ b = cc in sym (ap (λ y. y.name) same) ∙ (bytes_eq-Decides x.name m).0 h
    by_test false h e rest = rest e

-- the module that is found stands at the first place of its name
found_from : (m : List ℕ) (i : ℕ) (program : List Body) (b : Body) → find_body m program ≡ Some b → (k : ℕ) × (position_from (λ x. bytes_eq x.name m) i program ≡ Some (i + k)) × (slice_get program k ≡ Some b)
found_from m i [] b e = absurd (cc)
found_from m i (x ∷ xs) b e = by_test (bytes_eq x.name m) e (found_from m (i + 1) xs b)
  where
    by_test : (t : Bool) → cond t (Some x) (find_body m xs) ≡ Some b
        → (find_body m xs ≡ Some b → (k : ℕ) × (position_from (λ x. bytes_eq x.name m) (i + 1) xs ≡ Some (i + 1 + k)) × (slice_get xs k ≡ Some b))
        → (k : ℕ) × (cond t (Some i) (position_from (λ x. bytes_eq x.name m) (i + 1) xs) ≡ Some (i + k)) × (slice_get (x ∷ xs) k ≡ Some b)
    by_test true e rest = (0, ap Some (omega arith), e)
    by_test false e rest = let r = rest e in (suc r.0, r.1 ∙ ap Some (omega arith), r.2)

pub found_first : (m : List ℕ) (program : List Body) (b : Body) → find_body m program ≡ Some b → (k : ℕ) × (position (λ x. bytes_eq x.name b.name) program ≡ Some k) × (slice_get program k ≡ Some b)
found_first m program b e =
    let f = found_from m 0 program b e in
    let name = found_name m program b e in
    (f.0, ap (λ n. position (λ x. bytes_eq x.name n) program) name ∙ (position_from-zero (λ x. bytes_eq x.name m) program ∙ (f.1 ∙ ap Some (omega arith))), f.2)

-- an element stands at a place
placed : {X : Type 0} (xs : List X) (x : X) → Contains xs x → (k : ℕ) × (slice_get xs k ≡ Some x)
placed [] x c = absurd (contains_none x c)
placed {X} (y ∷ ys) x c = by_place (contains_cases y ys x c) (placed ys x)
  where
    by_place : (y ≡ x) ⊎ Contains ys x → (Contains ys x → (k : ℕ) × (slice_get ys k ≡ Some x)) → (k : ℕ) × (slice_get (y ∷ ys) k ≡ Some x)
    by_place (inl e) rest = (0, ap Some e)
    by_place (inr d) rest = let r = rest d in (suc r.0, r.1)

-- an instance that is listed is among the entries
entry_of : (all : List Entry) (i : Instance) → Contains (filter_map instance_of all) i → Contains all (is_instance i)
entry_of [] i c = absurd (contains_none i c)
entry_of (is_instance j ∷ all) i c = by_place (contains_cases j (filter_map instance_of all) i c) (entry_of all i)
  where
    by_place : (j ≡ i) ⊎ Contains (filter_map instance_of all) i → (Contains (filter_map instance_of all) i → Contains all (is_instance i)) → Contains (is_instance j ∷ all) (is_instance i)
    by_place (inl e) rest = subst (Contains (is_instance j ∷ all)) (ap is_instance e) (contains_first (is_instance j) all)
    by_place (inr d) rest = contains_later (is_instance j) all (is_instance i) (rest d)
entry_of (is_variable v ∷ all) i c = contains_later (is_variable v) all (is_instance i) (entry_of all i c)

module _ (program : List Body) where
  stands : (i : Instance) → Contains (instances program) i → StandsIn program (entries program) [] [] i
  stands i c = all_stand program (length program) [] [] (codes "main") [] i (entry_of (entries program) i c)

  pub instance_around : (i : Instance) → Contains (instances program) i → IsMain i ⊎ ((j : Instance) × (n : List ℕ) × IsBehind program i j n)
  instance_around i c = by_case (stands i c).around
    where
      by_case : ((i.path ≡ []) × (i.up ≡ [])) ⊎ ((j : Instance) × (n : List ℕ) × Contains (entries program) (is_instance j) × (i.path ≡ j.path ++ n ∷ []) × (i.up ≡ n ∷ j.up)) → IsMain i ⊎ ((j : Instance) × (n : List ℕ) × IsBehind program i j n)
      by_case (inl h) = inl (record { path = h.0; up = h.1 })
      by_case (inr (j, n, d, p, u)) = inr (j, n, record { listed = contains_filter_map instance_of (entries program) (is_instance j) j d refl; path = p; up = u })

  -- the number of the instance around an instance
  number_around : (i : Instance) → Contains (instances program) i → (n : ℕ) × IsNumber program n (outer i.up)
  number_around i c = by_case (instance_around i c)
    where
      by_case : IsMain i ⊎ ((j : Instance) × (n : List ℕ) × IsBehind program i j n) → (n : ℕ) × IsNumber program n (outer i.up)
      by_case (inl m) = let p = placed (instances program) i c in (p.0, record { instance = i; there = p.1; of = m.up ∙ sym (ap outer m.up) })
      by_case (inr (j, n, b)) = let p = placed (instances program) j b.listed in (p.0, record { instance = j; there = p.1; of = sym (ap outer b.up) })

  row_there : (i : Instance) → Contains (instances program) i → (r : Row) × IsRow program i r
  row_there i c =
      let f = (stands i c).found in
      let first = found_first f.0 program i.body f.1 in
      let around = number_around i c in
      (record { path = i.path; module_number = first.0; parent = around.0 }, record { path = refl; first = first.1; parent = around.1 })

  -- rows of some of the instances
  rows_of : (all : List Instance) → ((i : Instance) → Contains all i → Contains (instances program) i) → (rows : List Row) × AllZip (IsRow program) all rows
  rows_of [] f = ([], tt)
  rows_of (i ∷ all) f =
      let r = row_there i (f i (contains_first i all)) in
      let rest = rows_of all (λ j c. f j (contains_later i all j c)) in
      (r.0 ∷ rest.0, (r.1, rest.1))

  pub rows_there : (rows : List Row) × AreRows program rows
  rows_there = rows_of (instances program) (λ i c. c)

  pub row_module : (i : Instance) (r : Row) → Contains (instances program) i → IsRow program i r → slice_get program r.module_number ≡ Some i.body
  row_module i r c row =
      let f = (stands i c).found in
      let first = found_first f.0 program i.body f.1 in
      let same : first.0 ≡ r.module_number = some_same (sym first.1 ∙ row.first) in
      ap (slice_get program) (sym same) ∙ first.2
    where
      some_same : {a b : ℕ} → Some a ≡ Some b → a ≡ b
      some_same e = cc
