-- Laws of plain models.
use Rattle.std.proofs.Common.{◌≡◌, ◌+◌, ◌<◌, ℕ, Bool, true, false, not, ◌&&◌, ◌||◌, List, [], ◌∷◌, ◌++◌, map, drop, length, get_or, refl, ap, sym, ◌∙◌, add-one, append_assoc, ⊎_elim, arith}
use Rattle.std.specs.Prelude.{Some, codes}
use Rattle.std.specs.List.{list_all}
use Rattle.std.specs.Str.{bytes_eq}
use Rattle.std.proofs.Math.Seq.{drop-cons}
use Rattle.std.proofs.lemmas.Bool.{false_from_ne_true, both_ways, or_cases, and_parts, and_from}
use Rattle.std.proofs.lemmas.Slice.Eq.{bytes_eq-Decides}
use Rattle.std.proofs.lemmas.List.Folds.{list_any-append}
use Rattle.smv_tree.specs.Models.{Body, Part, part_of}
use Rattle.smv_tree.specs.declared.program.Item.{Item}
use Rattle.bool_replay.specs.Plain.{is_declared, are_distinct, names_of, declared_name, is_empty, is_plain_part, is_plain_body}

-- what is made of the elements from a place on: of that element, and of those behind it
pub map_from : {A B : Type 0} (f : A → B) (xs : List A) (i : ℕ) (d : A) → i < length xs → map f (drop i xs) ≡ f (get_or xs i d) ∷ map f (drop (i + 1) xs)
map_from f xs i d h = rw (add-one, drop-cons xs i d h) refl

-- the test of two texts goes both ways
pub bytes_eq-flip : (a b : List ℕ) → bytes_eq a b ≡ true → bytes_eq b a ≡ true
bytes_eq-flip a b e = (bytes_eq-Decides b a).1 (sym ((bytes_eq-Decides a b).0 e))

pub bytes_eq-other : (a b : List ℕ) → bytes_eq a b ≡ false → bytes_eq b a ≡ false
bytes_eq-other a b e = false_from_ne_true (bytes_eq b a) (λ t. both_ways (bytes_eq a b) e (bytes_eq-flip b a t))

is_declared-append : (xs ys : List (List ℕ)) (n : List ℕ) → is_declared (xs ++ ys) n ≡ (is_declared xs n || is_declared ys n)
is_declared-append xs ys n = list_any-append (bytes_eq n) xs ys

true_or : (a b : Bool) → a ≡ true → (a || b) ≡ true
true_or a b e = rw e refl

or_true : (a b : Bool) → b ≡ true → (a || b) ≡ true
or_true true b e = refl
or_true false b e = e

neither : (a b : Bool) → a ≡ false → b ≡ false → (a || b) ≡ false
neither a b e f = rw (e, f) refl

and_false_right : (a b : Bool) → b ≡ false → (a && b) ≡ false
and_false_right true b e = e
and_false_right false b e = refl

-- a name that comes again makes names that are not distinct
pub comes_again : (xs : List (List ℕ)) (n : List ℕ) (ys : List (List ℕ)) → is_declared xs n ≡ true → are_distinct (xs ++ n ∷ ys) ≡ false
comes_again [] n ys e = absurd (both_ways false refl e)
comes_again (x ∷ xs) n ys e =
    ⊎_elim
    (λ h. ap (λ b. not b && are_distinct (xs ++ n ∷ ys)) (is_declared-append xs (n ∷ ys) x ∙ or_true (is_declared xs x) (is_declared (n ∷ ys) x) (true_or (bytes_eq x n) (is_declared ys x) (bytes_eq-flip n x h))))
    (λ h. and_false_right (not (is_declared (xs ++ n ∷ ys) x)) (are_distinct (xs ++ n ∷ ys)) (comes_again xs n ys h))
    (or_cases (bytes_eq n x) (is_declared xs n) e)

-- a new name behind distinct names
pub distinct_more : (xs : List (List ℕ)) (n : List ℕ) → are_distinct xs ≡ true → is_declared xs n ≡ false → are_distinct (xs ++ n ∷ []) ≡ true
distinct_more [] n e f = refl
distinct_more (x ∷ xs) n e f =
    let p = and_parts (not (is_declared xs x)) (are_distinct xs) e in
    and_from _ _
    (ap not (is_declared-append xs (n ∷ []) x ∙ neither (is_declared xs x) (is_declared (n ∷ []) x) (not_true (is_declared xs x) p.0) (neither (bytes_eq x n) false (bytes_eq-other n x (first_false (bytes_eq n x) (is_declared xs n) f)) refl)))
    (distinct_more xs n p.1 (second_false (bytes_eq n x) (is_declared xs n) f))
  where
    not_true : (b : Bool) → not b ≡ true → b ≡ false
    not_true true h = sym h
    not_true false h = refl

    first_false : (a b : Bool) → (a || b) ≡ false → a ≡ false
    first_false true b h = h
    first_false false b h = refl

    second_false : (a b : Bool) → (a || b) ≡ false → b ≡ false
    second_false true b h = absurd (both_ways true h refl)
    second_false false b h = h

-- a new name is one of all names, and the names stay distinct
pub name_added : (old new : List (List ℕ)) (name : List ℕ) (rest all : List (List ℕ)) → new ≡ old ++ name ∷ [] → old ++ name ∷ rest ≡ all → are_distinct old ≡ true → is_declared old name ≡ false → (new ++ rest ≡ all) × (are_distinct new ≡ true)
name_added old new name rest all e f d n =
    (ap (λ x. x ++ rest) e ∙ (append_assoc old (name ∷ []) rest ∙ f), ap are_distinct e ∙ distinct_more old name d n)

-- a list of one element
pub list_of_one : {A : Type 0} (xs : List A) (x : A) → length xs ≡ 1 → x ≡ get_or xs 0 x → xs ≡ x ∷ []
list_of_one [] x e f = absurd (omega arith)
list_of_one (y ∷ []) x e f = ap (λ z. z ∷ []) (sym f)
list_of_one (y ∷ z ∷ xs) x e f = absurd (omega arith)

-- a module that passes all tests
pub plain_body : (b : Body) → bytes_eq b.name (codes "main") ≡ true → is_empty b.params ≡ true → are_distinct (names_of b.parts) ≡ true → list_all (is_plain_part (names_of b.parts)) b.parts ≡ true → is_plain_body b ≡ true
plain_body b m p d l = and_from _ _ (and_from _ _ (and_from _ _ m p) d) l

-- the names of declarations that begin with one of this name
pub names_of-cons : (p : Part) (n : List ℕ) (ps : List Part) → Some n ≡ declared_name p → names_of (p ∷ ps) ≡ n ∷ names_of ps
names_of-cons p n ps e = rw (← e) refl

-- the names from a place on, where a declaration stands there
pub names_from : (before : List (List ℕ)) (items : List Item) (i : ℕ) (item : Item) (n : List ℕ) (all : List (List ℕ)) → i < length items → item ≡ get_or items i item → Some n ≡ declared_name (part_of item) → before ++ names_of (map part_of (drop i items)) ≡ all → before ++ n ∷ names_of (map part_of (drop (i + 1) items)) ≡ all
names_from before items i item n all h e d f =
    ap (λ ns. before ++ ns) (sym (ap names_of (map_from part_of items i item h ∙ ap (λ x. part_of x ∷ map part_of (drop (i + 1) items)) (sym e)) ∙ names_of-cons (part_of item) n (map part_of (drop (i + 1) items)) d)) ∙ f

-- nothing is made of no elements
pub is_empty-map : {A B : Type 0} (f : A → B) (xs : List A) → length xs ≡ 0 → is_empty (map f xs) ≡ true
is_empty-map f [] e = refl
is_empty-map f (x ∷ xs) e = absurd (omega arith)
