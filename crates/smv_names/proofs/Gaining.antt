-- Sets of symbols that gain symbols.
use Rattle.std.proofs.Common.{◌≡◌, ℕ, ◌+◌, ◌<◌, Bool, true, false, List, [], ◌∷◌, ◌++◌, length, map, take, get_or, refl, ap, sym, ◌∙◌, ◌||◌}
use Rattle.std.specs.Prelude.{if◌then◌else◌}
use Rattle.std.specs.List.{list_any}
use Rattle.std.specs.Str.{bytes_eq}
use Rattle.std.proofs.lemmas.List.{map-append}
use Rattle.std.proofs.lemmas.List.Folds.{list_any-append, list_any_more}
use Rattle.std.proofs.lemmas.Slice.Eq.{bytes_eq-Decides}
use Rattle.indexmap.specs.IndexSet.{insert_key}
use Rattle.smv_graph.proofs.Numbering.{bytes_eq-sym}
use Rattle.smv_names.specs.SymbolSets.{has, Gains}

or_assoc : (a b c : Bool) → ((a || b) || c) ≡ (a || (b || c))
or_assoc true b c = refl
or_assoc false b c = refl

pub or_false : (b : Bool) → (b || false) ≡ b
or_false true = refl
or_false false = refl

pub list_any-map : {X Y : Type 0} (p : Y → Bool) (f : X → Y) (xs : List X) → list_any p (map f xs) ≡ list_any (λ x. p (f x)) xs
list_any-map p f [] = refl
list_any-map p f (x ∷ xs) = ap (λ b. p (f x) || b) (list_any-map p f xs)

pub gains_on : {X : Type 0} (holds : List ℕ → X → Bool) (xs : List X) (i : ℕ) (x : X) (old now new : List (List ℕ)) → i < length xs → x ≡ get_or xs i x
    → Gains (λ m. list_any (holds m) (take i xs)) old now → Gains (λ m. holds m x) now new → Gains (λ m. list_any (holds m) (take (i + 1) xs)) old new
gains_on holds xs i x old now new l at h g m =
    g m ∙ (ap (λ b. b || holds m x) (h m) ∙ (or_assoc (has old m) (list_any (holds m) (take i xs)) (holds m x)
    ∙ ap (λ b. has old m || b) (ap (λ y. list_any (holds m) (take i xs) || holds m y) at ∙ sym (list_any_more (holds m) xs i x l))))

module _ {A : Type 0} (f : A → List ℕ) (keys : List A) (k : A) (m : List ℕ) where
  gained : has (map f (insert_key (λ x y. bytes_eq (f x) (f y)) keys k)) m ≡ (has (map f keys) m || bytes_eq (f k) m)
  gained = by_there (list_any (λ y. bytes_eq (f k) (f y)) keys) refl
    where
      kept : list_any (λ y. bytes_eq (f k) (f y)) keys ≡ true → (b : Bool) → bytes_eq (f k) m ≡ b → has (map f keys) m ≡ (has (map f keys) m || b)
      kept there true e =
          let is : f k ≡ m = (bytes_eq-Decides (f k) m).0 e in
          let had : has (map f keys) m ≡ true = ap (has (map f keys)) (sym is) ∙ (list_any-map (bytes_eq (f k)) f keys ∙ there) in
          had ∙ sym (ap (λ b. b || true) had)
      kept there false e = sym (or_false (has (map f keys) m))

      by_there : (t : Bool) → list_any (λ y. bytes_eq (f k) (f y)) keys ≡ t → has (map f (if t then keys else keys ++ k ∷ [])) m ≡ (has (map f keys) m || bytes_eq (f k) m)
      by_there true e = kept e (bytes_eq (f k) m) refl
      by_there false e =
          ap (λ ns. has ns m) (map-append f keys (k ∷ []))
          ∙ (list_any-append (bytes_eq m) (map f keys) (f k ∷ [])
          ∙ ap (λ b. has (map f keys) m || b) (or_false (bytes_eq m (f k)) ∙ bytes_eq-sym m (f k)))

-- a set with one more, by what is written of it
pub gained_one : {A : Type 0} (f : A → List ℕ) (keys new : List A) (k : A) (name : List ℕ) (old : List (List ℕ)) → map f keys ≡ old → f k ≡ name → new ≡ insert_key (λ x y. bytes_eq (f x) (f y)) keys k
    → Gains (λ m. bytes_eq name m) old (map f new)
gained_one f keys new k name old view same put m =
    ap (λ ks. has (map f ks) m) put ∙ (gained f keys k m ∙ (ap (λ ns. has ns m || bytes_eq (f k) m) view ∙ ap (λ n. has old m || bytes_eq n m) same))
