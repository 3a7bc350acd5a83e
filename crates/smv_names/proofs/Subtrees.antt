-- The instances that an instance brings: which stand behind which, and that each has names of its own.
use Rattle.std.proofs.Common.{◌≡◌, ◌<◌, ℕ, zero, suc, true, List, [], ◌∷◌, ◌++◌, length, refl, ap, sym, ◌∙◌, subst, inl, inr, arith, append_assoc}
use Rattle.std.specs.Prelude.{◌⊎◌, ⊤, Contains, Option, Some, None, slice_get, flat_map, filter_map}
use Rattle.std.proofs.lemmas.List.{length-append}
use Rattle.std.proofs.lemmas.List.Elements.{Contains-append_left, Contains-append_right, Contains-append_cases, filter_map-append}
use Rattle.smv_tree.specs.declared.place.Place.{Place}
use Rattle.smv_tree.specs.declared.program.Kind.{Kind}
use Rattle.smv_tree.specs.Trees.{Tree}
use Rattle.smv_tree.specs.Models.{Body, Part, variable, define, assign, constraint, property, plain, instance}
use Rattle.smv_meaning.specs.Instances.{Instance, Entry, is_instance, instance_of, find_body, list_of, part_entries, entries_below}
use Rattle.smv_meaning.specs.Definitions.{declares}
use Rattle.smv_meaning.proofs.Lists.{contains_none, contains_cases, contains_first, contains_later}
use Rattle.std.proofs.lemmas.Slice.Eq.{bytes_eq-Decides}
use Rattle.smv_modules.proofs.Reached.{contained_at}

-- each name is declared at one place
abbrev pub DeclaresOnce : List Part → Type 0
DeclaresOnce parts = (n : List ℕ) (a b : ℕ) (p q : Part) → slice_get parts a ≡ Some p → slice_get parts b ≡ Some q → declares n p ≡ true → declares n q ≡ true → a ≡ b

-- what a list of instance variables brings, by what each brings
abbrev pub Below : Type 0
Below = List (List ℕ) → List (List ℕ) → List ℕ → List Tree → List Entry

abbrev pub listed : List Entry → List Instance
listed es = filter_map instance_of es

-- an instance is brought by an instance variable
pub record IsBrought (below : Below) (path up : List (List ℕ)) (parts : List Part) (x : Instance) : Type 0 where
  pub kind : Kind
  pub name : List ℕ
  pub place : Place
  pub of : List ℕ
  pub at : Place
  pub actuals : List Tree
  pub part : Contains parts (variable kind name place (instance of at actuals))
  pub brought : Contains (listed (below (path ++ name ∷ []) (name ∷ up) of actuals)) x

module _ (below : Below) (path up : List (List ℕ)) where
  abbrev brings : Part → List Instance
  brings part = listed (part_entries below path up part)

  unfoldable pub all_brought : List Part → List Instance
  all_brought parts = listed (flat_map (part_entries below path up) parts)

  brought_first : (part : Part) (parts : List Part) → all_brought (part ∷ parts) ≡ brings part ++ all_brought parts
  unfolding all_brought
  brought_first part parts = filter_map-append instance_of (part_entries below path up part) (flat_map (part_entries below path up) parts)

  of_part : (part : Part) (parts : List Part) (x : Instance) → Contains (brings part) x → IsBrought below path up (part ∷ parts) x
  of_part (variable kind n p (plain t q)) parts x c = absurd (contains_none x c)
  of_part (variable kind n p (instance m q es)) parts x c =
      record { kind = kind; name = n; place = p; of = m; at = q; actuals = es; part = contains_first (variable kind n p (instance m q es)) parts; brought = c }
  of_part (define n p e) parts x c = absurd (contains_none x c)
  of_part (assign o n p e) parts x c = absurd (contains_none x c)
  of_part (constraint s p e) parts x c = absurd (contains_none x c)
  of_part (property n p f) parts x c = absurd (contains_none x c)

  pub by_part : (parts : List Part) (x : Instance) → Contains (all_brought parts) x → IsBrought below path up parts x
  unfolding all_brought
  by_part [] x c = absurd (contains_none x c)
  by_part (part ∷ parts) x c = by_place (Contains-append_cases (brings part) (all_brought parts) x (subst (λ xs. Contains xs x) (brought_first part parts) c)) (by_part parts x)
    where
      by_place : Contains (brings part) x ⊎ Contains (all_brought parts) x → (Contains (all_brought parts) x → IsBrought below path up parts x) → IsBrought below path up (part ∷ parts) x
      by_place (inl h) rest = of_part part parts x h
      by_place (inr h) rest =
          let b = rest h in
          record { kind = b.kind; name = b.name; place = b.place; of = b.of; at = b.at; actuals = b.actuals; part = contains_later part parts (variable b.kind b.name b.place (instance b.of b.at b.actuals)) b.part; brought = b.brought }

  pub part_brings : (parts : List Part) (x : Instance) → IsBrought below path up parts x → Contains (all_brought parts) x
  part_brings [] x b = absurd (contains_none (variable b.kind b.name b.place (instance b.of b.at b.actuals)) b.part)
  part_brings (part ∷ parts) x b =
      subst (λ xs. Contains xs x) (sym (brought_first part parts)) (by_place (contains_cases part parts (variable b.kind b.name b.place (instance b.of b.at b.actuals)) b.part) (λ c.
      part_brings parts x (record { kind = b.kind; name = b.name; place = b.place; of = b.of; at = b.at; actuals = b.actuals; part = c; brought = b.brought })))
    where
      by_place : (part ≡ variable b.kind b.name b.place (instance b.of b.at b.actuals)) ⊎ Contains parts (variable b.kind b.name b.place (instance b.of b.at b.actuals))
          → (Contains parts (variable b.kind b.name b.place (instance b.of b.at b.actuals)) → Contains (all_brought parts) x) → Contains (brings part ++ all_brought parts) x
      by_place (inl e) rest = Contains-append_left (brings part) (all_brought parts) x (subst (λ y. Contains (brings y) x) (sym e) b.brought)
      by_place (inr c) rest = Contains-append_right (brings part) (all_brought parts) x (rest c)

-- no later element of a list is an ancestor of an earlier one, or has its names
abbrev pub NotAbove : Instance → Instance → Type 0
NotAbove x y = (ys : List (List ℕ)) → x.up ≡ ys ++ y.up → ⊥

abbrev pub AreInOrder : List Instance → Type 0
AreInOrder [] = ⊤
AreInOrder (x ∷ xs) = ((y : Instance) → Contains xs y → NotAbove x y) × AreInOrder xs

order_append : (xs ys : List Instance) → AreInOrder xs → AreInOrder ys → ((x y : Instance) → Contains xs x → Contains ys y → NotAbove x y) → AreInOrder (xs ++ ys)
order_append [] ys h k apart = k
order_append (x ∷ xs) ys h k apart =
    (λ y c. elim (Contains-append_cases xs ys y c) [ inl a ↦ h.0 y a | inr b ↦ apart x y (contains_first x xs) b ], order_append xs ys h.1 k (λ z y c d. apart z y (contains_later x xs z c) d))

pub order_at : (xs : List Instance) (a b : ℕ) (x y : Instance) → AreInOrder xs → slice_get xs a ≡ Some x → slice_get xs b ≡ Some y → a < b → NotAbove x y
order_at [] a b x y h e f l = absurd (cc)
order_at (z ∷ zs) zero zero x y h e f l = absurd (omega arith)
order_at (z ∷ zs) zero (suc b) x y h e f l = let same : z ≡ x = cc in subst (λ w. NotAbove w y) same (h.0 y (in_at zs b f))
  where
    in_at : (ws : List Instance) (k : ℕ) → slice_get ws k ≡ Some y → Contains ws y
    in_at [] k e = absurd (cc)
    in_at (w ∷ ws) zero e = let same : w ≡ y = cc in subst (Contains (w ∷ ws)) same (contains_first w ws)
    in_at (w ∷ ws) (suc k) e = contains_later w ws y (in_at ws k e)
order_at (z ∷ zs) (suc a) zero x y h e f l = absurd (omega arith)
order_at (z ∷ zs) (suc a) (suc b) x y h e f l = order_at zs a b x y h.1 e f (omega (arith, l))

-- instances whose names end so
unfoldable pub EndSo : List (List ℕ) → List Instance → Type 0
EndSo up xs = (x : Instance) → Contains xs x → (zs : List (List ℕ)) × (x.up ≡ zs ++ up)

same_name : (xs ys us : List (List ℕ)) (a b : List ℕ) → xs ++ a ∷ us ≡ ys ++ b ∷ us → a ≡ b
same_name [] [] us a b e = cc
same_name [] (y ∷ ys) us a b e = absurd (let l : length (a ∷ us) ≡ length (y ∷ (ys ++ b ∷ us)) = ap length e in omega (arith, l, length-append ys (b ∷ us)))
same_name (x ∷ xs) [] us a b e = absurd (let l : length (x ∷ (xs ++ a ∷ us)) ≡ length (b ∷ us) = ap length e in omega (arith, l, length-append xs (a ∷ us)))
same_name (x ∷ xs) (y ∷ ys) us a b e = let rest : xs ++ a ∷ us ≡ ys ++ b ∷ us = cc in same_name xs ys us a b rest

pub longer : (xs us : List (List ℕ)) (a : List ℕ) → us ≡ xs ++ a ∷ us → ⊥
longer xs us a e = let l : length us ≡ length (xs ++ a ∷ us) = ap length e in omega (arith, l, length-append xs (a ∷ us))

module _ (below : Below) (path up : List (List ℕ)) (ends : (path up : List (List ℕ)) (m : List ℕ) (es : List Tree) → EndSo up (listed (below path up m es))) where
  -- the names of an instance that is brought end with that of its variable
  pub brought_names : (parts : List Part) (x : Instance) (b : IsBrought below path up parts x) → (zs : List (List ℕ)) × (x.up ≡ zs ++ b.name ∷ up)
  unfolding EndSo
  brought_names parts x b = ends (path ++ b.name ∷ []) (b.name ∷ up) b.of b.actuals x b.brought

  module _ (orders : (path up : List (List ℕ)) (m : List ℕ) (es : List Tree) → AreInOrder (listed (below path up m es))) where
    order_part : (part : Part) → AreInOrder (brings below path up part)
    order_part (variable kind n p (plain t q)) = tt
    order_part (variable kind n p (instance m q es)) = orders (path ++ n ∷ []) (n ∷ up) m es
    order_part (define n p e) = tt
    order_part (assign o n p e) = tt
    order_part (constraint s p e) = tt
    order_part (property n p f) = tt

    order_parts : (parts : List Part) → DeclaresOnce parts → AreInOrder (all_brought below path up parts)
    unfolding all_brought
    order_parts [] once = tt
    order_parts (part ∷ parts) once =
        subst AreInOrder (sym (brought_first below path up part parts))
        (order_append (brings below path up part) (all_brought below path up parts) (order_part part) (order_parts parts (λ n a b p q e f d g. suc_same a b (once n (suc a) (suc b) p q e f d g))) apart)
      where
        suc_same : (a b : ℕ) → suc a ≡ suc b → a ≡ b
        suc_same a b e = omega (arith, e)

        declares_own : (k : Kind) (n : List ℕ) (p q : Place) (m : List ℕ) (es : List Tree) → declares n (variable k n p (instance m q es)) ≡ true
        declares_own k n p q m es = (bytes_eq-Decides n n).1 refl

        first_is : (x : Instance) (b : IsBrought below path up (part ∷ []) x) → part ≡ variable b.kind b.name b.place (instance b.of b.at b.actuals)
        first_is x b = elim (contains_cases part [] (variable b.kind b.name b.place (instance b.of b.at b.actuals)) b.part) [
          | inl e ↦ e
          | inr c ↦ absurd (contains_none (variable b.kind b.name b.place (instance b.of b.at b.actuals)) c)
        ]

        apart : (x y : Instance) → Contains (brings below path up part) x → Contains (all_brought below path up parts) y → NotAbove x y
        apart x y c d ys e =
            let a = of_part below path up part [] x c in
            let b = by_part below path up parts y d in
            let s = brought_names (part ∷ []) x a in
            let t = brought_names parts y b in
            let names : s.0 ++ a.name ∷ up ≡ (ys ++ t.0) ++ b.name ∷ up = sym s.1 ∙ (e ∙ (ap (λ zs. ys ++ zs) t.1 ∙ sym (append_assoc ys t.0 (b.name ∷ up)))) in
            let same : a.name ≡ b.name = same_name s.0 (ys ++ t.0) up a.name b.name names in
            let at = contained_at parts (variable b.kind b.name b.place (instance b.of b.at b.actuals)) b.part in
            let own : declares b.name part ≡ true = subst (λ p. declares b.name p ≡ true) (sym (first_is x a)) (subst (λ n. declares n (variable a.kind a.name a.place (instance a.of a.at a.actuals)) ≡ true) same (declares_own a.kind a.name a.place a.at a.of a.actuals)) in
            let no : 0 ≡ suc at.0 = once b.name 0 (suc at.0) part (variable b.kind b.name b.place (instance b.of b.at b.actuals)) refl at.1 own (declares_own b.kind b.name b.place b.at b.of b.actuals) in
            omega (arith, no)

module _ (program : List Body) where
  abbrev pub subtree : ℕ → List (List ℕ) → List (List ℕ) → List ℕ → List Tree → List Instance
  subtree depth path up m es = listed (entries_below depth program path up m es)

  abbrev pub root : List (List ℕ) → List (List ℕ) → List Tree → Body → Instance
  root path up es b = record { path = path; up = up; body = b; actuals = es }

  -- what a module that is found brings
  abbrev pub from_body : ℕ → List (List ℕ) → List (List ℕ) → List Tree → Option Body → List Instance
  from_body depth path up es o = listed (list_of (λ b. is_instance (root path up es b) ∷ flat_map (part_entries (entries_below depth program) path up) b.parts) o)

  pub names_end : (depth : ℕ) (path up : List (List ℕ)) (m : List ℕ) (es : List Tree) → EndSo up (subtree depth path up m es)
  unfolding EndSo all_brought
  names_end zero path up m es x c = absurd (contains_none x c)
  names_end (suc depth) path up m es x c = by_body (find_body m program) c (names_end depth)
    where
      by_body : (o : Option Body) → Contains (from_body depth path up es o) x → ((path up : List (List ℕ)) (m : List ℕ) (es : List Tree) → EndSo up (subtree depth path up m es)) → (zs : List (List ℕ)) × (x.up ≡ zs ++ up)
      by_body None d rest = absurd (contains_none x d)
      by_body (Some b) d rest = elim (contains_cases (root path up es b) (all_brought (entries_below depth program) path up b.parts) x d) [
        | inl e ↦ ([], ap (λ (y : Instance). y.up) (sym e))
        | inr k ↦ (let w = by_part (entries_below depth program) path up b.parts x k in
            let n = brought_names (entries_below depth program) path up rest b.parts x w in
            (n.0 ++ w.name ∷ [], n.1 ∙ sym (append_assoc n.0 (w.name ∷ []) up)))
      ]

  pub in_order : ((m : List ℕ) (b : Body) → find_body m program ≡ Some b → DeclaresOnce b.parts) → (depth : ℕ) (path up : List (List ℕ)) (m : List ℕ) (es : List Tree) → AreInOrder (subtree depth path up m es)
  unfolding EndSo all_brought
  in_order once zero path up m es = tt
  in_order once (suc depth) path up m es = by_body (find_body m program) refl (in_order once depth)
    where
      by_body : (o : Option Body) → find_body m program ≡ o → ((path up : List (List ℕ)) (m : List ℕ) (es : List Tree) → AreInOrder (subtree depth path up m es)) → AreInOrder (from_body depth path up es o)
      by_body None f rest = tt
      by_body (Some b) f rest = (
        λ y c ys e.
            let w = by_part (entries_below depth program) path up b.parts y c in
            let n = brought_names (entries_below depth program) path up (names_end depth) b.parts y w in
            longer (ys ++ n.0) up w.name (e ∙ (ap (λ zs. ys ++ zs) n.1 ∙ sym (append_assoc ys n.0 (w.name ∷ up)))),
        order_parts (entries_below depth program) path up (names_end depth) rest b.parts (once m b f),
      )
