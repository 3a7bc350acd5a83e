-- Elements of lists.
use Rattle.std.proofs.Common.{◌≡◌, ℕ, suc, zero, Bool, true, false, cond, List, [], ◌∷◌, map, refl, ap, sym, subst, arith, lit<, inl, inr}
use Rattle.std.specs.Prelude.{Contains, Option, Some, None, ◌⊎◌, find, flat_map, filter_map, slice_get}
use Rattle.std.specs.List.{cons_option}
use Rattle.std.specs.Str.{bytes_eq}
use Rattle.std.proofs.lemmas.Bool.{false≢true}
use Rattle.std.proofs.lemmas.Slice.Eq.{bytes_eq-Decides}
use Rattle.std.proofs.lemmas.List.Elements.{Contains-append_left, Contains-append_right, Contains-append_cases}
use Rattle.smv_meaning.specs.Names.{same_names}

-- a list of one element contains it, and nothing else
pub contains_only : {X : Type 0} (x : X) → Contains (x ∷ []) x
contains_only x = (0, lit< tt, refl)

pub only_contained : {X : Type 0} (x y : X) → Contains (x ∷ []) y → x ≡ y
only_contained x y (zero, l, e) = e
only_contained x y (suc k, l, e) = absurd (omega arith)

pub contains_none : {X : Type 0} (x : X) → Contains [] x → ⊥
contains_none x (k, l, e) = omega arith

-- an element is the first, or stands behind it
pub contains_cases : {X : Type 0} (x : X) (xs : List X) (y : X) → Contains (x ∷ xs) y → (x ≡ y) ⊎ Contains xs y
contains_cases x xs y c = elim (Contains-append_cases (x ∷ []) xs y c) [ inl h ↦ inl (only_contained x y h) | inr h ↦ inr h ]

pub contains_later : {X : Type 0} (x : X) (xs : List X) (y : X) → Contains xs y → Contains (x ∷ xs) y
contains_later x xs y c = Contains-append_right (x ∷ []) xs y c

pub contains_first : {X : Type 0} (x : X) (xs : List X) → Contains (x ∷ xs) x
contains_first x xs = Contains-append_left (x ∷ []) xs x (contains_only x)

-- what is found passes the test, and is in the list
pub find_passes : {X : Type 0} (p : X → Bool) (xs : List X) (x : X) → find p xs ≡ Some x → p x ≡ true
find_passes {X} p [] x e = absurd (cc)
find_passes {X} p (y ∷ ys) x e = by_test (p y) refl e (find_passes p ys x)
  where
    by_test : (b : Bool) → p y ≡ b → cond b (Some y) (find p ys) ≡ Some x → (find p ys ≡ Some x → p x ≡ true) → p x ≡ true
    by_test true h e rest = let same : y ≡ x = cc in subst (λ z. p z ≡ true) same h
    by_test false h e rest = rest e

pub find_contained : {X : Type 0} (p : X → Bool) (xs : List X) (x : X) → find p xs ≡ Some x → Contains xs x
find_contained {X} p [] x e = absurd (cc)
find_contained {X} p (y ∷ ys) x e = by_test (p y) e (find_contained p ys x)
  where
    by_test : (b : Bool) → cond b (Some y) (find p ys) ≡ Some x → (find p ys ≡ Some x → Contains ys x) → Contains (y ∷ ys) x
    by_test true e rest = let same : y ≡ x = cc in subst (λ z. Contains (y ∷ ys) z) same (contains_first y ys)
    by_test false e rest = contains_later y ys x (rest e)

-- what an element gives is among what all give
pub contains_flat_map : {X Y : Type 0} (f : X → List Y) (xs : List X) (x : X) (y : Y) → Contains xs x → Contains (f x) y → Contains (flat_map f xs) y
contains_flat_map f [] x y c d = absurd (contains_none x c)
contains_flat_map {X} {Y} f (z ∷ zs) x y c d =
    elim (contains_cases z zs x c) [
      | inl e ↦ Contains-append_left (f z) (flat_map f zs) y (subst (λ w. Contains (f w) y) (sym e) d)
      | inr h ↦ Contains-append_right (f z) (flat_map f zs) y (contains_flat_map f zs x y h d)
    ]

pub contains_filter_map : {X Y : Type 0} (h : X → Option Y) (xs : List X) (x : X) (y : Y) → Contains xs x → h x ≡ Some y → Contains (filter_map h xs) y
contains_filter_map h [] x y c e = absurd (contains_none x c)
contains_filter_map {X} {Y} h (z ∷ zs) x y c e =
    elim (contains_cases z zs x c) [ inl same ↦ first (subst (λ w. h w ≡ Some y) (sym same) e) | inr k ↦ later (h z) (contains_filter_map h zs x y k e) ]
  where
    first : h z ≡ Some y → Contains (cons_option (h z) (filter_map h zs)) y
    first e = subst (λ o. Contains (cons_option o (filter_map h zs)) y) (sym e) (contains_first y (filter_map h zs))

    later : (o : Option Y) → Contains (filter_map h zs) y → Contains (cons_option o (filter_map h zs)) y
    later None c = c
    later (Some w) c = contains_later w (filter_map h zs) y c

-- what stands at a place is in the list
pub slice_get-contained : {X : Type 0} (xs : List X) (k : ℕ) (x : X) → slice_get xs k ≡ Some x → Contains xs x
slice_get-contained [] k x e = absurd (cc)
slice_get-contained (y ∷ ys) zero x e = let same : y ≡ x = cc in subst (Contains (y ∷ ys)) same (contains_first y ys)
slice_get-contained (y ∷ ys) (suc k) x e = contains_later y ys x (slice_get-contained ys k x e)

-- what stands at a place of a list that is made of another
pub slice_get-map : {X Y : Type 0} (f : X → Y) (xs : List X) (k : ℕ) (x : X) → slice_get xs k ≡ Some x → slice_get (map f xs) k ≡ Some (f x)
slice_get-map f [] k x e = absurd (cc)
slice_get-map f (y ∷ ys) zero x e = let same : y ≡ x = cc in ap (λ z. Some (f z)) same
slice_get-map f (y ∷ ys) (suc k) x e = slice_get-map f ys k x e

-- lists of names that pass the test are the same
pub same_names-true : (xs ys : List (List ℕ)) → same_names xs ys ≡ true → xs ≡ ys
same_names-true [] [] e = refl
same_names-true [] (y ∷ ys) e = absurd (false≢true e)
same_names-true (x ∷ xs) [] e = absurd (false≢true e)
same_names-true (x ∷ xs) (y ∷ ys) e = by_test (bytes_eq x y) refl e (same_names-true xs ys)
  where
    by_test : (b : Bool) → bytes_eq x y ≡ b → cond b (same_names xs ys) false ≡ true → (same_names xs ys ≡ true → xs ≡ ys) → x ∷ xs ≡ y ∷ ys
    by_test true h e rest = let p : x ≡ y = (bytes_eq-Decides x y).0 h in let q : xs ≡ ys = rest e in cc
    by_test false h e rest = absurd (false≢true e)
