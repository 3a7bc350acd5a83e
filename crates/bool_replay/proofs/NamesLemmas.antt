-- Laws of names that are kept in a set.
use Rattle.std.proofs.Common.{◌≡◌, ◌+◌, ℕ, Bool, false, not, cond, List, [], ◌∷◌, ◌++◌, map, refl, ap, sym, ◌∙◌}
use Rattle.std.specs.Prelude.{position, ◌||◌}
use Rattle.std.specs.List.{list_any, position_or_len}
use Rattle.std.specs.Str.{bytes_eq}
use Rattle.std.proofs.lemmas.List.{map-append, length-map}
use Rattle.bool_replay.specs.Plain.{is_declared}

-- a test of what is made of each element
pub list_any-map : {A B : Type 0} (f : A → B) (p : B → Bool) (xs : List A) → list_any p (map f xs) ≡ list_any (λ x. p (f x)) xs
list_any-map f p [] = refl
list_any-map f p (x ∷ xs) = ap (λ b. p (f x) || b) (list_any-map f p xs)

pub position_or_len-map : {A B : Type 0} (f : A → B) (p : B → Bool) (xs : List A) → position_or_len p (map f xs) ≡ position_or_len (λ x. p (f x)) xs
position_or_len-map f p [] = refl
position_or_len-map f p (x ∷ xs) = ap (λ n. cond (not (p (f x))) (1 + n) 0) (position_or_len-map f p xs)

pub position-map : {A B : Type 0} (f : A → B) (p : B → Bool) (xs : List A) → position p (map f xs) ≡ position (λ x. p (f x)) xs
position-map f p xs = rw (position_or_len-map f p xs, length-map) refl

-- a name is among those of the keys
pub declared_items : {A : Type 0} (f : A → List ℕ) (name : List ℕ) (keys : List A) (names : List (List ℕ)) → map f keys ≡ names → list_any (λ k. bytes_eq name (f k)) keys ≡ is_declared names name
declared_items f name keys names e = sym (list_any-map f (bytes_eq name) keys) ∙ ap (list_any (bytes_eq name)) e

pub position_items : {A : Type 0} (f : A → List ℕ) (name : List ℕ) (keys : List A) (names : List (List ℕ)) → map f keys ≡ names → position (λ k. bytes_eq name (f k)) keys ≡ position (bytes_eq name) names
position_items f name keys names e = sym (position-map f (bytes_eq name) keys) ∙ ap (position (bytes_eq name)) e

-- a new key is the last name
pub added_name : {A : Type 0} (f : A → List ℕ) (keys new : List A) (k : A) (names : List (List ℕ)) → map f keys ≡ names → list_any (λ x. bytes_eq (f k) (f x)) keys ≡ false → new ≡ cond (list_any (λ x. bytes_eq (f k) (f x)) keys) keys (keys ++ k ∷ []) → map f new ≡ names ++ f k ∷ []
added_name f keys new k names e absent put = ap (map f) (put ∙ ap (λ b. cond b keys (keys ++ k ∷ [])) absent) ∙ (map-append f keys (k ∷ []) ∙ ap (λ ns. ns ++ f k ∷ []) e)
