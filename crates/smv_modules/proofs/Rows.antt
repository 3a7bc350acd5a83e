-- The rows of instances from their nodes.
use Rattle.std.proofs.Common.{◌≡◌, ◌<◌, ◌≤◌, ◌+◌, ℕ, zero, suc, List, [], ◌∷◌, ◌++◌, length, map, take, refl, ap, sym, ◌∙◌, subst, arith, inl, inr, append_assoc, get_or}
use Rattle.std.specs.Prelude.{Contains, Option, Some, None, codes, slice_get, filter_map, flat_map}
use Rattle.std.specs.List.{AllZip}
use Rattle.std.proofs.lemmas.List.{append-nil, length-append, take_more, take_all}
use Rattle.std.proofs.lemmas.Option.{slice_get_within, get_or_from_slice_get, slice_get_read}
use Rattle.smv_tree.specs.Models.{Body}
use Rattle.smv_meaning.specs.Instances.{is_instance, find_body, list_of, instance_of, part_entries, entries_below, instances}
use Rattle.smv_meaning.specs.Instances as meant
use Rattle.smv_meaning.specs.Definitions.{outer}
use Rattle.smv_meaning.specs.Rows.{IsNumber, IsRow, AreRows}
use Rattle.smv_meaning.proofs.Lists.{contains_none, contains_cases}
use Rattle.smv_modules.specs.declared.nodes.Node.{Node}
use Rattle.smv_modules.specs.declared.instances.Instance.{Instance}
use Rattle.smv_modules.specs.Told.{row_of}
use Rattle.smv_modules.specs.Nodes.{IsPlaced, IsNode, AreNodesBehind, AreNodes, AreFewNodes}
use Rattle.smv_modules.specs.Listed.{IsPathIn, StandsIn, IsOf}
use Rattle.smv_modules.specs.Limits.{IsWithinLimits, IsFirstDeep}
use Rattle.smv_modules.proofs.Listing.{some_same, nodes_length}

-- what stands in the front of a list stands in the list
get_taken : {X : Type 0} (xs : List X) (k j : ℕ) (x : X) → slice_get (take k xs) j ≡ Some x → slice_get xs j ≡ Some x
get_taken [] zero j x e = absurd (cc)
get_taken [] (suc k) j x e = absurd (cc)
get_taken (y ∷ ys) zero j x e = absurd (cc)
get_taken (y ∷ ys) (suc k) zero x e = e
get_taken (y ∷ ys) (suc k) (suc j) x e = get_taken ys k j x e

taken_get : {X : Type 0} (xs : List X) (k j : ℕ) (x : X) → j < k → slice_get xs j ≡ Some x → slice_get (take k xs) j ≡ Some x
taken_get xs zero j x l e = absurd (omega arith)
taken_get [] (suc k) j x l e = e
taken_get (y ∷ ys) (suc k) zero x l e = e
taken_get (y ∷ ys) (suc k) (suc j) x l e = taken_get ys k j x (omega arith) e

taken_one : {X : Type 0} (xs : List X) (k : ℕ) (x : X) → slice_get xs k ≡ Some x → take (k + 1) xs ≡ take k xs ++ x ∷ []
taken_one xs k x e = take_more xs k x (slice_get_within xs k x e) ∙ ap (λ y. take k xs ++ y ∷ []) (get_or_from_slice_get xs k x x e)

zip_push : {A B : Type 0} (R : A → B → Type 0) (xs : List A) (ys : List B) (x : A) (y : B) → AllZip R xs ys → R x y → AllZip R (xs ++ x ∷ []) (ys ++ y ∷ [])
zip_push R [] [] x y h r = (r, tt)
zip_push R [] (z ∷ zs) x y h r = absurd h
zip_push R (z ∷ zs) [] x y h r = absurd h
zip_push R (u ∷ us) (v ∷ vs) x y h r = (h.0, zip_push R us vs x y h.1 r)

-- what stands at a place of both
zip_at : {A B : Type 0} (R : A → B → Type 0) (xs : List A) (ys : List B) (k : ℕ) (x : A) → AllZip R xs ys → slice_get xs k ≡ Some x → (y : B) × (slice_get ys k ≡ Some y) × R x y
zip_at R [] ys k x h e = absurd (cc)
zip_at R (u ∷ us) [] k x h e = absurd h
zip_at R (u ∷ us) (v ∷ vs) zero x h e = (v, refl, subst (λ z. R z v) (some_same u x e) h.0)
zip_at R (u ∷ us) (v ∷ vs) (suc k) x h e = zip_at R us vs k x h.1 e

zip_length : {A B : Type 0} (R : A → B → Type 0) (xs : List A) (ys : List B) → AllZip R xs ys → length xs ≡ length ys
zip_length R [] [] h = refl
zip_length R [] (v ∷ vs) h = absurd h
zip_length R (u ∷ us) [] h = absurd h
zip_length R (u ∷ us) (v ∷ vs) h = ap suc (zip_length R us vs h.1)

module _ (program : List Body) where
  -- an instance with its row, and a path that is not too long
  pub record IsShallowRow (i : meant.Instance) (r : Instance) : Type 0 where
    pub row : IsRow program i (row_of r)
    pub shallow : length i.path ≤ 64

  abbrev all_of : ℕ → List meant.Instance
  all_of n = filter_map instance_of (entries_below n program [] [] (codes "main") [])

  -- the first instance is the main one
  main_first : (n k : ℕ) (i : meant.Instance) → slice_get (all_of n) k ≡ Some i → (j : meant.Instance) × (slice_get (all_of n) 0 ≡ Some j) × (j.up ≡ [])
  main_first zero k i e = absurd (cc)
  main_first (suc n) k i e = by_body (find_body (codes "main") program) e
    where
      from : Option Body → List meant.Instance
      from o = filter_map instance_of (list_of (λ body. is_instance (record { path = []; up = []; body = body; actuals = [] }) ∷ flat_map (part_entries (entries_below n program) [] []) body.parts) o)

      by_body : (o : Option Body) → slice_get (from o) k ≡ Some i → (j : meant.Instance) × (slice_get (from o) 0 ≡ Some j) × (j.up ≡ [])
      by_body None e = absurd (cc)
      by_body (Some b) e = (record { path = []; up = []; body = b; actuals = [] }, refl, refl)

  node_at : (before all : List meant.Instance) (nodes : List Node) (k : ℕ) (node : Node) → AreNodesBehind program before all nodes → slice_get nodes k ≡ Some node
      → (i : meant.Instance) × (slice_get all k ≡ Some i) × IsNode program (before ++ take k all) i node
  node_at before [] [] k node h e = absurd (cc)
  node_at before [] (m ∷ ms) k node h e = absurd h
  node_at before (i ∷ all) [] k node h e = absurd h
  node_at before (i ∷ all) (m ∷ ms) zero node h e =
      (i, refl, subst (λ b. IsNode program b i node) (sym (append-nil before)) (subst (IsNode program before i) (some_same m node e) h.0))
  node_at before (i ∷ all) (m ∷ ms) (suc k) node h e =
      let r = node_at (before ++ i ∷ []) all ms k node h.1 e in
      (r.0, r.1, subst (λ b. IsNode program b r.0 node) (append_assoc before (i ∷ []) (take k all)) r.2)

  -- the instance of this number, and its node
  pub record IsAt (k : ℕ) (node : Node) (i : meant.Instance) : Type 0 where
    pub stands : slice_get (instances program) k ≡ Some i
    pub is_node : IsNode program (take k (instances program)) i node

  located_node : (nodes : List Node) (k : ℕ) (node : Node) → AreNodes program nodes → slice_get nodes k ≡ Some node → (i : meant.Instance) × IsAt k node i
  located_node nodes k node h e = let r = node_at [] (instances program) nodes k node h e in (r.0, record { stands = r.1; is_node = r.2 })

  pub taken : (xs nodes : List Node) (k : ℕ) (node : Node) → xs ≡ nodes → AreNodes program nodes → k < length xs → node ≡ get_or xs k node → (i : meant.Instance) × IsAt k node i
  taken xs nodes k node same are l e = located_node nodes k node are (subst (λ ys. slice_get ys k ≡ Some node) same (slice_get_read xs (length xs) k node refl l e))

  module _ (k : ℕ) (node : Node) (i : meant.Instance) (list : List Instance) (at : IsAt k node i) (rows : AllZip IsShallowRow (take k (instances program)) list) where
    stands_by : (name : Option (List ℕ)) → IsPlaced (take k (instances program)) name node.parent i.path i.up → (n : List ℕ) → name ≡ Some n → node.parent < length list
    stands_by None p n e = absurd (cc)
    stands_by (Some m) (j, e, p, u) n d =
        let l = slice_get_within (take k (instances program)) node.parent j e in
        let same : length (take k (instances program)) ≡ length list = zip_length IsShallowRow (take k (instances program)) list rows in
        omega (arith, l, same)

    pub node_stands : StandsIn list node
    node_stands = stands_by node.name at.is_node.placed

    -- the path that is made is that of the instance
    path_by : (name : Option (List ℕ)) (path : List (List ℕ)) → IsPlaced (take k (instances program)) name node.parent i.path i.up → IsPathIn list name node.parent path → (path ≡ i.path) × (length path ≤ 65)
    path_by None path (z, p, u) q = (q ∙ sym p, subst (λ x. length x ≤ 65) (sym q) (omega arith))
    path_by (Some n) path (j, e, p, u) (r, d, q) =
        let there = zip_at IsShallowRow (take k (instances program)) list node.parent j rows e in
        let same : there.0 ≡ r = some_same there.0 r (sym there.1 ∙ d) in
        let above : r.path ≡ j.path = ap (λ x. x.path) (sym same) ∙ there.2.row.path in
        let made : path ≡ j.path ++ n ∷ [] = q ∙ ap (λ x. x ++ n ∷ []) above in
        let long : length path ≡ length j.path + 1 = ap length made ∙ length-append j.path (n ∷ []) in
        let short : length j.path ≤ 64 = there.2.shallow in
        (made ∙ sym p, omega (arith, long, short))

    parent_by : (name : Option (List ℕ)) → IsPlaced (take k (instances program)) name node.parent i.path i.up → IsNumber program node.parent (outer i.up)
    parent_by None (z, p, u) =
        let main = main_first (length program) k i at.stands in
        record { instance = main.0; there = subst (λ x. slice_get (instances program) x ≡ Some main.0) (sym z) main.1; of = main.2 ∙ sym (ap outer u) }
    parent_by (Some n) (j, e, p, u) = record { instance = j; there = get_taken (instances program) k node.parent j e; of = sym (ap outer u) }

    pub listed_on : (r : Instance) (more : List Instance) → more ≡ list ++ r ∷ [] → IsOf list node r → AllZip IsShallowRow (take (k + 1) (instances program)) more
    listed_on r more e of =
        let path = path_by node.name r.path at.is_node.placed of.path in
        let row : IsRow program i (row_of r) = record { path = path.0; first = at.is_node.first ∙ ap Some (sym of.number); parent = subst (λ n. IsNumber program n (outer i.up)) (sym of.parent) (parent_by node.name at.is_node.placed) } in
        let shallow : length i.path ≤ 64 = subst (λ x. length x ≤ 64) path.0 of.shallow in
        let one : IsShallowRow i r = record { row = row; shallow = shallow } in
        let all = zip_push IsShallowRow (take k (instances program)) list i r rows one in
        subst (λ some. AllZip IsShallowRow some more) (sym (taken_one (instances program) k i at.stands)) (subst (AllZip IsShallowRow (take k (instances program) ++ i ∷ [])) (sym e) all)

    pub deep_here : (path : List (List ℕ)) → IsPathIn list node.name node.parent path → 64 < length path → IsFirstDeep program path
    deep_here path q l =
        let p = path_by node.name path at.is_node.placed q in
        let most = p.1 in
        let long : length path ≡ 65 = omega (arith, l, most) in
        record {
          instance = i;
          first = record { number = k; stands = at.stands; so = subst (λ x. length x ≡ 65) p.0 long; none_before = before };
          told = p.0;
        }
      where
        before : (j : ℕ) (b : meant.Instance) → j < k → slice_get (instances program) j ≡ Some b → length b.path ≡ 65 → ⊥
        before j b m e d =
            let there = zip_at IsShallowRow (take k (instances program)) list j b rows (taken_get (instances program) k j b m e) in
            let short : length b.path ≤ 64 = there.2.shallow in
            omega (arith, short, d)

  all_rows : (all : List meant.Instance) (list : List Instance) → AllZip IsShallowRow all list → AllZip (IsRow program) all (map row_of list)
  all_rows [] [] h = tt
  all_rows [] (r ∷ rs) h = absurd h
  all_rows (i ∷ is_) [] h = absurd h
  all_rows (i ∷ is_) (r ∷ rs) h = (h.0.row, all_rows is_ rs h.1)

  all_shallow : (all : List meant.Instance) (list : List Instance) → AllZip IsShallowRow all list → (i : meant.Instance) → Contains all i → length i.path ≤ 64
  all_shallow [] list h i c = absurd (contains_none i c)
  all_shallow (j ∷ js) [] h i c = absurd h
  all_shallow (j ∷ js) (r ∷ rs) h i c = elim (contains_cases j js i c) [
    | inl e ↦ subst (λ (x : meant.Instance). length x.path ≤ 64) e h.0.shallow
    | inr d ↦ all_shallow js rs h.1 i d
  ]

  -- when all nodes are listed
  pub all_listed : (nodes : List Node) (k : ℕ) (list : List Instance) → AreFewNodes program nodes → length nodes ≤ k → AllZip IsShallowRow (take k (instances program)) list → AreRows program (map row_of list) × IsWithinLimits program
  all_listed nodes k list few l rows =
      let same : length (instances program) ≡ length nodes = nodes_length program [] (instances program) nodes few.0 in
      let all : take k (instances program) ≡ instances program = take_all k (instances program) (omega (arith, same, l)) in
      let whole : AllZip IsShallowRow (instances program) list = subst (λ some. AllZip IsShallowRow some list) all rows in
      let count = few.1 in
      (all_rows (instances program) list whole, record { few = omega (arith, same, count); shallow = all_shallow (instances program) list whole })
