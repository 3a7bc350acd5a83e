-- Numbers by name, and the first module of a name.
use Rattle.std.proofs.Common.{◌≡◌, ◌+◌, ℕ, Bool, true, false, cond, List, [], ◌∷◌, ◌++◌, length, map, refl, ap, sym, ◌∙◌, arith}
use Rattle.std.specs.Prelude.{Option, Some, None, position, is_some, if◌then◌else◌}
use Rattle.std.specs.Option.{option_or}
use Rattle.std.specs.Map.{lookup}
use Rattle.std.specs.List.{position_from}
use Rattle.std.specs.Str.{bytes_eq}
use Rattle.std.proofs.lemmas.Iterator.Adapters.{position_from-zero}
use Rattle.std.proofs.lemmas.List.{map-append}
use Rattle.std.proofs.lemmas.Slice.Eq.{bytes_eq-Decides}
use Rattle.std.proofs.lemmas.Bool.Decides.{same_from_decides}

-- a look-up by what is made of each key
pub lookup-map : {A V : Type 0} (f : A → List ℕ) (test : List ℕ → Bool) (es : List (A × V)) → lookup test (map (λ e. (f e.0, e.1)) es) ≡ lookup (λ k. test (f k)) es
lookup-map f test [] = refl
lookup-map f test (e ∷ es) = ap (λ r. cond (test (f e.0)) (Some e.1) r) (lookup-map f test es)

pub lookup-append : {K V : Type 0} (test : K → Bool) (xs ys : List (K × V)) → lookup test (xs ++ ys) ≡ option_or (lookup test xs) (lookup test ys)
lookup-append test [] ys = refl
lookup-append {K} {V} test (x ∷ xs) ys = by_test (test x.0) (lookup-append test xs ys)
  where
    by_test : (b : Bool) → lookup test (xs ++ ys) ≡ option_or (lookup test xs) (lookup test ys) → cond b (Some x.1) (lookup test (xs ++ ys)) ≡ option_or (cond b (Some x.1) (lookup test xs)) (lookup test ys)
    by_test true e = refl
    by_test false e = e

position_from-push : {X : Type 0} (p : X → Bool) (i : ℕ) (xs : List X) (x : X) → position_from p i (xs ++ x ∷ []) ≡ option_or (position_from p i xs) (cond (p x) (Some (i + length xs)) None)
position_from-push p i [] x = ap (λ n. cond (p x) (Some n) None) (omega arith)
position_from-push {X} p i (y ∷ ys) x = by_test (p y) (position_from-push p (i + 1) ys x)
  where
    further : Option ℕ
    further = cond (p x) (Some (i + length (y ∷ ys))) None

    moved : cond (p x) (Some (i + 1 + length ys)) None ≡ further
    moved = ap (λ n. cond (p x) (Some n) None) (omega arith)

    by_test : (b : Bool) → position_from p (i + 1) (ys ++ x ∷ []) ≡ option_or (position_from p (i + 1) ys) (cond (p x) (Some (i + 1 + length ys)) None)
        → cond b (Some i) (position_from p (i + 1) (ys ++ x ∷ [])) ≡ option_or (cond b (Some i) (position_from p (i + 1) ys)) further
    by_test true e = refl
    by_test false e = e ∙ ap (option_or (position_from p (i + 1) ys)) moved

pub position-push : {X : Type 0} (p : X → Bool) (xs : List X) (x : X) → position p (xs ++ x ∷ []) ≡ option_or (position p xs) (cond (p x) (Some (length xs)) None)
position-push p xs x =
    position_from-zero p (xs ++ x ∷ []) ∙ (position_from-push p 0 xs x
    ∙ (ap (λ o. option_or o (cond (p x) (Some (0 + length xs)) None)) (sym (position_from-zero p xs))
    ∙ ap (λ n. option_or (position p xs) (cond (p x) (Some n) None)) (omega arith)))

pub bytes_eq-sym : (a b : List ℕ) → bytes_eq a b ≡ bytes_eq b a
bytes_eq-sym a b = same_from_decides (bytes_eq a b) (bytes_eq b a) (bytes_eq-Decides a b) (λ e. sym ((bytes_eq-Decides b a).0 e), λ e. (bytes_eq-Decides b a).1 (sym e))

pub option_or-none : {V : Type 0} (o : Option V) → option_or o None ≡ o
option_or-none None = refl
option_or-none (Some k) = refl

-- names with the places at which they stand first
abbrev pub AreNumbered : {X : Type 0} → (X → List ℕ) → List (List ℕ × ℕ) → List X → Type 0
AreNumbered name es xs = (m : List ℕ) → lookup (bytes_eq m) es ≡ position (λ x. bytes_eq (name x) m) xs

-- one more, unless its name has a number
pub numbered_more : {X : Type 0} (name : X → List ℕ) (es : List (List ℕ × ℕ)) (xs : List X) (x : X) → AreNumbered name es xs
    → AreNumbered name (if is_some (lookup (bytes_eq (name x)) es) then es else es ++ (name x, length xs) ∷ []) (xs ++ x ∷ [])
numbered_more {X} name es xs x h m = by_there (lookup (bytes_eq (name x)) es) refl
  where
    own : Option ℕ
    own = cond (bytes_eq (name x) m) (Some (length xs)) None

    more : position (λ y. bytes_eq (name y) m) (xs ++ x ∷ []) ≡ option_or (lookup (bytes_eq m) es) own
    more = position-push (λ y. bytes_eq (name y) m) xs x ∙ ap (λ o. option_or o own) (sym (h m))

    same : lookup (bytes_eq m) ((name x, length xs) ∷ []) ≡ own
    same = ap (λ b. cond b (Some (length xs)) None) (bytes_eq-sym m (name x))

    kept : (n : ℕ) → lookup (bytes_eq (name x)) es ≡ Some n → (b : Bool) → bytes_eq (name x) m ≡ b → option_or (lookup (bytes_eq m) es) (cond b (Some (length xs)) None) ≡ lookup (bytes_eq m) es
    kept n there true e = let is : name x ≡ m = (bytes_eq-Decides (name x) m).0 e in rw (sym (ap (λ k. lookup (bytes_eq k) es) is) ∙ there) refl
    kept n there false e = option_or-none (lookup (bytes_eq m) es)

    by_there : (o : Option ℕ) → lookup (bytes_eq (name x)) es ≡ o → lookup (bytes_eq m) (if is_some o then es else es ++ (name x, length xs) ∷ []) ≡ position (λ y. bytes_eq (name y) m) (xs ++ x ∷ [])
    by_there None e = lookup-append (bytes_eq m) es ((name x, length xs) ∷ []) ∙ (ap (option_or (lookup (bytes_eq m) es)) same ∙ sym more)
    by_there (Some n) e = sym (kept n e (bytes_eq (name x) m) refl) ∙ sym more

module _ {A V : Type 0} (f : A → List ℕ) (es : List (A × V)) where
  -- a name without a number is no key
  pub absent_key : (k : A) (name : List ℕ) (numbers : List (List ℕ × V)) → map (λ e. (f e.0, e.1)) es ≡ numbers → f k ≡ name → lookup (bytes_eq name) numbers ≡ None → lookup (λ x. bytes_eq (f k) (f x)) es ≡ None
  absent_key k name numbers view same absent =
      ap (λ n. lookup (λ x. bytes_eq n (f x)) es) same ∙ (sym (lookup-map f (bytes_eq name) es) ∙ (ap (lookup (bytes_eq name)) view ∙ absent))

  pub inserted : (new : List (A × V)) (k : A) (number : V) (name : List ℕ) (numbers : List (List ℕ × V)) → map (λ e. (f e.0, e.1)) es ≡ numbers → f k ≡ name → lookup (bytes_eq name) numbers ≡ None → new ≡ es ++ (k, number) ∷ []
      → map (λ e. (f e.0, e.1)) new ≡ (if is_some (lookup (bytes_eq name) numbers) then numbers else numbers ++ (name, number) ∷ [])
  inserted new k number name numbers view same absent put =
      ap (map (λ e. (f e.0, e.1))) put ∙ (map-append (λ e. (f e.0, e.1)) es ((k, number) ∷ [])
      ∙ (ap (λ ns. ns ++ (f k, number) ∷ []) view ∙ (ap (λ n. numbers ++ (n, number) ∷ []) same
      ∙ sym (ap (λ o. if is_some o then numbers else numbers ++ (name, number) ∷ []) absent))))

-- one more, by what is written of it
pub numbered_on : {X : Type 0} (name : X → List ℕ) (es new : List (List ℕ × ℕ)) (xs ys : List X) (x : X) (n : List ℕ) (i : ℕ) → AreNumbered name es xs → ys ≡ xs ++ x ∷ [] → n ≡ name x → i ≡ length xs
    → new ≡ (if is_some (lookup (bytes_eq n) es) then es else es ++ (n, i) ∷ []) → AreNumbered name new ys
numbered_on {X} name es new xs ys x n i h more same count put m =
    ap (lookup (bytes_eq m)) named ∙ (numbered_more name es xs x h m ∙ ap (position (λ y. bytes_eq (name y) m)) (sym more))
  where
    named : new ≡ (if is_some (lookup (bytes_eq (name x)) es) then es else es ++ (name x, length xs) ∷ [])
    named = put ∙ (ap (λ k. if is_some (lookup (bytes_eq k) es) then es else es ++ (k, i) ∷ []) same ∙ ap (λ j. if is_some (lookup (bytes_eq (name x)) es) then es else es ++ (name x, j) ∷ []) count)
