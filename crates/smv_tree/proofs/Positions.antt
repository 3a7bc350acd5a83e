-- Positions in a list that is made of another.
use Rattle.std.proofs.Common.{◌≡◌, ℕ, ◌+◌, Bool, true, false, cond, List, [], ◌∷◌, map, refl, sym, ◌∙◌}
use Rattle.std.specs.Prelude.{Option, Some, position}
use Rattle.std.specs.List.{position_from}
use Rattle.std.proofs.lemmas.Iterator.Adapters.{position_from-zero}

position_from-map : {X Y : Type 0} (p : Y → Bool) (f : X → Y) (i : ℕ) (xs : List X) → position_from p i (map f xs) ≡ position_from (λ x. p (f x)) i xs
position_from-map p f i [] = refl
position_from-map {X} {Y} p f i (x ∷ xs) = by_test (p (f x)) (position_from-map p f (i + 1) xs)
  where
    by_test : (b : Bool) → position_from p (i + 1) (map f xs) ≡ position_from (λ x. p (f x)) (i + 1) xs → cond b (Some i) (position_from p (i + 1) (map f xs)) ≡ cond b (Some i) (position_from (λ x. p (f x)) (i + 1) xs)
    by_test true e = refl
    by_test false e = e

pub position-map : {X Y : Type 0} (p : Y → Bool) (f : X → Y) (xs : List X) → position p (map f xs) ≡ position (λ x. p (f x)) xs
position-map p f xs = position_from-zero p (map f xs) ∙ (position_from-map p f 0 xs ∙ sym (position_from-zero (λ x. p (f x)) xs))
