-- Laws of the truth of plain expressions.
use Rattle.std.proofs.Common.{◌≡◌, ◌+◌, ◌<◌, ℕ, suc, Bool, true, false, not, cond, List, [], ◌∷◌, length, get_or, refl, ap, sym, ◌∙◌, arith}
use Rattle.std.specs.Prelude.{position, Some, None, nat_lt}
use Rattle.std.specs.List.{position_or_len}
use Rattle.std.specs.Str.{bytes_eq}
use Rattle.std.proofs.lemmas.Bool.{ltb-true, ltb-false}
use Rattle.std.proofs.lemmas.Option.{same_Some, none-some}
use Rattle.bool_replay.specs.Evaluation.{bool_at}

found_at : (names : List (List ℕ)) (xs : List Bool) (n : List ℕ) → position_or_len (bytes_eq n) names < length names → bool_at names xs n ≡ get_or xs (position_or_len (bytes_eq n) names) false
found_at [] xs n h = absurd (omega arith)
found_at (m ∷ names) [] n h = refl
found_at (m ∷ names) (x ∷ xs) n h = by_test (bytes_eq n m) (λ k. found_at names xs n k) h
  where
    further : (k : ℕ) → get_or xs k false ≡ get_or (x ∷ xs) (1 + k) false
    further k = let e : suc k ≡ 1 + k = omega arith in ap (λ j. get_or (x ∷ xs) j false) e

    by_test : (b : Bool) → (position_or_len (bytes_eq n) names < length names → bool_at names xs n ≡ get_or xs (position_or_len (bytes_eq n) names) false) → cond (not b) (1 + position_or_len (bytes_eq n) names) 0 < length (m ∷ names) → cond b x (bool_at names xs n) ≡ get_or (x ∷ xs) (cond (not b) (1 + position_or_len (bytes_eq n) names) 0) false
    by_test true f k = refl
    by_test false f k = f (omega arith) ∙ further (position_or_len (bytes_eq n) names)

found_nowhere : (names : List (List ℕ)) (xs : List Bool) (n : List ℕ) → length names ≡ position_or_len (bytes_eq n) names → bool_at names xs n ≡ false
found_nowhere [] xs n h = refl
found_nowhere (m ∷ names) [] n h = refl
found_nowhere (m ∷ names) (x ∷ xs) n h = by_test (bytes_eq n m) (λ k. found_nowhere names xs n k) h
  where
    by_test : (b : Bool) → (length names ≡ position_or_len (bytes_eq n) names → bool_at names xs n ≡ false) → length (m ∷ names) ≡ cond (not b) (1 + position_or_len (bytes_eq n) names) 0 → cond b x (bool_at names xs n) ≡ false
    by_test true f k = absurd (omega arith)
    by_test false f k = f (omega arith)

position_most : (names : List (List ℕ)) (n : List ℕ) → position_or_len (bytes_eq n) names < length names + 1
position_most [] n = omega arith
position_most (m ∷ names) n = by_test (bytes_eq n m) (position_most names n)
  where
    by_test : (b : Bool) → position_or_len (bytes_eq n) names < length names + 1 → cond (not b) (1 + position_or_len (bytes_eq n) names) 0 < length (m ∷ names) + 1
    by_test true h = omega arith
    by_test false h = omega arith

-- the value at the place of a name
pub bool_at_position : (names : List (List ℕ)) (xs : List Bool) (n : List ℕ) (i : ℕ) → position (bytes_eq n) names ≡ Some i → bool_at names xs n ≡ get_or xs i false
bool_at_position names xs n i e = by_test (nat_lt (position_or_len (bytes_eq n) names) (length names)) refl e
  where
    by_test : (b : Bool) → nat_lt (position_or_len (bytes_eq n) names) (length names) ≡ b → cond b (Some (position_or_len (bytes_eq n) names)) None ≡ Some i → bool_at names xs n ≡ get_or xs i false
    by_test true h f = found_at names xs n (ltb-true _ _ h) ∙ ap (λ k. get_or xs k false) (same_Some _ _ f)
    by_test false h f = absurd (none-some i f)

-- no value for a name that is not there
pub bool_at_nowhere : (names : List (List ℕ)) (xs : List Bool) (n : List ℕ) → position (bytes_eq n) names ≡ None → bool_at names xs n ≡ false
bool_at_nowhere names xs n e = by_test (nat_lt (position_or_len (bytes_eq n) names) (length names)) refl e
  where
    by_test : (b : Bool) → nat_lt (position_or_len (bytes_eq n) names) (length names) ≡ b → cond b (Some (position_or_len (bytes_eq n) names)) None ≡ None → bool_at names xs n ≡ false
    by_test true h f = absurd (none-some _ (sym f))
    by_test false h f = found_nowhere names xs n (omega (arith, ltb-false _ _ h, position_most names n))
