-- Each instance has a module of the program, and stands behind the instance around it.
use Rattle.std.proofs.Common.{◌≡◌, ℕ, zero, suc, List, [], ◌∷◌, ◌++◌, refl, ap, sym, ◌∙◌, subst, inl, inr}
use Rattle.std.specs.Prelude.{Contains, Option, Some, None, ◌⊎◌, flat_map}
use Rattle.std.proofs.lemmas.List.Elements.{Contains-append_left, Contains-append_right, Contains-append_cases}
use Rattle.smv_tree.specs.Trees.{Tree}
use Rattle.smv_tree.specs.Models.{Body, Part, variable, define, assign, constraint, property, plain, instance}
use Rattle.smv_meaning.specs.Instances.{Instance, Entry, is_instance, is_variable, part_entries, entries_below, find_body, list_of}
use Rattle.smv_meaning.proofs.Lists.{only_contained, contains_none, contains_cases, contains_later, contains_first}

-- an entry of the module of this name in the program, at these paths or right behind an instance of the list
pub record StandsIn (program : List Body) (all : List Entry) (path up : List (List ℕ)) (i : Instance) : Type 0 where
  pub found : (m : List ℕ) × (find_body m program ≡ Some i.body)
  pub around : ((i.path ≡ path) × (i.up ≡ up)) ⊎ ((j : Instance) × (n : List ℕ) × Contains all (is_instance j) × (i.path ≡ j.path ++ n ∷ []) × (i.up ≡ n ∷ j.up))

-- where a list has more, an instance stands in it all the more
stands_in_more : (program : List Body) (all more : List Entry) (path up : List (List ℕ)) (i : Instance) → ((e : Entry) → Contains all e → Contains more e) → StandsIn program all path up i → StandsIn program more path up i
stands_in_more program all more path up i f s = record { found = s.found; around = by_case s.around }
  where
    by_case : ((i.path ≡ path) × (i.up ≡ up)) ⊎ ((j : Instance) × (n : List ℕ) × Contains all (is_instance j) × (i.path ≡ j.path ++ n ∷ []) × (i.up ≡ n ∷ j.up))
        → ((i.path ≡ path) × (i.up ≡ up)) ⊎ ((j : Instance) × (n : List ℕ) × Contains more (is_instance j) × (i.path ≡ j.path ++ n ∷ []) × (i.up ≡ n ∷ j.up))
    by_case (inl h) = inl h
    by_case (inr (j, n, c, p, q)) = inr (j, n, f (is_instance j) c, p, q)

-- of what instance variables bring, if it holds of what each brings
abbrev AllStand : List Body → List Entry → List (List ℕ) → List (List ℕ) → Type 0
AllStand program all path up = (i : Instance) → Contains all (is_instance i) → StandsIn program all path up i

module _ (program : List Body) (below : List (List ℕ) → List (List ℕ) → List ℕ → List Tree → List Entry) where
  -- what a declaration brings stands behind the instance that declares it
  abbrev Behind : List (List ℕ) → List (List ℕ) → Instance → List Entry → Instance → Type 0
  Behind path up owner all i = ((m : List ℕ) × (find_body m program ≡ Some i.body)) × ((j : Instance) × (n : List ℕ) × Contains (is_instance owner ∷ all) (is_instance j) × (i.path ≡ j.path ++ n ∷ []) × (i.up ≡ n ∷ j.up))

  part_behind : ((path up : List (List ℕ)) (m : List ℕ) (es : List Tree) → AllStand program (below path up m es) path up) → (path up : List (List ℕ)) (owner : Instance) → owner.path ≡ path → owner.up ≡ up → (part : Part) (i : Instance)
      → Contains (part_entries below path up part) (is_instance i) → Behind path up owner (part_entries below path up part) i
  part_behind h path up owner p u (variable k n q (plain t r)) i c = absurd (let no : is_variable (record { path = path ++ n ∷ []; kind = k; type = t }) ≡ is_instance i = only_contained _ (is_instance i) c in cc)
  part_behind h path up owner p u (variable k n q (instance m r es)) i c =
      let s = h (path ++ n ∷ []) (n ∷ up) m es i c in
      (s.found, by_case s.around)
    where
      all : List Entry
      all = below (path ++ n ∷ []) (n ∷ up) m es

      by_case : ((i.path ≡ path ++ n ∷ []) × (i.up ≡ n ∷ up)) ⊎ ((j : Instance) × (l : List ℕ) × Contains all (is_instance j) × (i.path ≡ j.path ++ l ∷ []) × (i.up ≡ l ∷ j.up))
          → (j : Instance) × (l : List ℕ) × Contains (is_instance owner ∷ all) (is_instance j) × (i.path ≡ j.path ++ l ∷ []) × (i.up ≡ l ∷ j.up)
      by_case (inl e) = (owner, n, contains_first (is_instance owner) all, e.0 ∙ ap (λ x. x ++ n ∷ []) (sym p), e.1 ∙ ap (λ x. n ∷ x) (sym u))
      by_case (inr (j, l, d, x, y)) = (j, l, contains_later (is_instance owner) all (is_instance j) d, x, y)
  part_behind h path up owner p u (define n q x) i c = absurd (contains_none (is_instance i) c)
  part_behind h path up owner p u (assign k n q x) i c = absurd (contains_none (is_instance i) c)
  part_behind h path up owner p u (constraint k q x) i c = absurd (contains_none (is_instance i) c)
  part_behind h path up owner p u (property k q f) i c = absurd (contains_none (is_instance i) c)

  parts_behind : ((path up : List (List ℕ)) (m : List ℕ) (es : List Tree) → AllStand program (below path up m es) path up) → (path up : List (List ℕ)) (owner : Instance) → owner.path ≡ path → owner.up ≡ up → (parts : List Part) (i : Instance)
      → Contains (flat_map (part_entries below path up) parts) (is_instance i) → Behind path up owner (flat_map (part_entries below path up) parts) i
  parts_behind h path up owner p u [] i c = absurd (contains_none (is_instance i) c)
  parts_behind h path up owner p u (part ∷ parts) i c =
      by_place (Contains-append_cases front back (is_instance i) c) (part_behind h path up owner p u part i) (parts_behind h path up owner p u parts i)
    where
      front : List Entry
      front = part_entries below path up part

      back : List Entry
      back = flat_map (part_entries below path up) parts

      to_left : (j : Instance) → (Contains (is_instance owner ∷ front) (is_instance j)) → Contains (is_instance owner ∷ (front ++ back)) (is_instance j)
      to_left j d = Contains-append_left (is_instance owner ∷ front) back (is_instance j) d

      to_right : (j : Instance) → (is_instance owner ≡ is_instance j) ⊎ Contains back (is_instance j) → Contains (is_instance owner ∷ (front ++ back)) (is_instance j)
      to_right j (inl e) = subst (Contains (is_instance owner ∷ (front ++ back))) e (contains_first (is_instance owner) (front ++ back))
      to_right j (inr d) = contains_later (is_instance owner) (front ++ back) (is_instance j) (Contains-append_right front back (is_instance j) d)

      by_place : Contains front (is_instance i) ⊎ Contains back (is_instance i) → (Contains front (is_instance i) → Behind path up owner front i) → (Contains back (is_instance i) → Behind path up owner back i) → Behind path up owner (front ++ back) i
      by_place (inl d) f g = let b = f d in let a = b.1 in (b.0, (a.0, a.1, to_left a.0 a.2, a.3, a.4))
      by_place (inr d) f g = let b = g d in let a = b.1 in (b.0, (a.0, a.1, to_right a.0 (contains_cases (is_instance owner) back (is_instance a.0) a.2), a.3, a.4))

-- each instance at or behind a path is of a module of the program, and stands behind another, but for the first
pub all_stand : (program : List Body) (depth : ℕ) (path up : List (List ℕ)) (m : List ℕ) (es : List Tree) → AllStand program (entries_below depth program path up m es) path up
all_stand program zero path up m es i c = absurd (contains_none (is_instance i) c)
all_stand program (suc depth) path up m es i c = by_module (find_body m program) refl c (all_stand program depth)
  where
    below : Option Body → List Entry
    below o = list_of (λ body. is_instance (record { path = path; up = up; body = body; actuals = es }) ∷ flat_map (part_entries (entries_below depth program) path up) body.parts) o

    by_place : (b : Body) → find_body m program ≡ Some b → (is_instance (record { path = path; up = up; body = b; actuals = es }) ≡ is_instance i) ⊎ Contains (flat_map (part_entries (entries_below depth program) path up) b.parts) (is_instance i)
        → ((path up : List (List ℕ)) (m : List ℕ) (es : List Tree) → AllStand program (entries_below depth program path up m es) path up) → StandsIn program (below (Some b)) path up i
    by_place b f (inl e) h =
        let own : record { path = path; up = up; body = b; actuals = es } ≡ i = cc in
        record { found = (m, f ∙ ap (λ j. Some j.body) own); around = inl (sym (ap (λ j. j.path) own), sym (ap (λ j. j.up) own)) }
    by_place b f (inr d) h =
        let s = parts_behind program (entries_below depth program) h path up (record { path = path; up = up; body = b; actuals = es }) refl refl b.parts i d in
        record { found = s.0; around = inr s.1 }

    by_module : (o : Option Body) → find_body m program ≡ o → Contains (below o) (is_instance i)
        → ((path up : List (List ℕ)) (m : List ℕ) (es : List Tree) → AllStand program (entries_below depth program path up m es) path up) → StandsIn program (below o) path up i
    by_module None f c h = absurd (contains_none (is_instance i) c)
    by_module (Some b) f c h = by_place b f (contains_cases (is_instance (record { path = path; up = up; body = b; actuals = es })) (flat_map (part_entries (entries_below depth program) path up) b.parts) (is_instance i) c) h
