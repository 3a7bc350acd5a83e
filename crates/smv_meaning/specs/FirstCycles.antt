-- Which cycle is named where there is one: a shortest one through the first element that lies on one.
use Rattle.std.specs.Prelude.{◌≡◌, ◌⊎◌, ◌<◌, ℕ, List, ◌∷◌, Some, slice_get}
use Rattle.smv_meaning.specs.Walks.{IsShortestCycle}

-- the first element of a list of which something holds
pub record IsFirstOf {A : Type 0} (holds : A → Type 0) (all : List A) (a : A) : Type 0 where
  pub number : ℕ
  pub stands : slice_get all number ≡ Some a
  pub so : holds a
  pub none_before : (j : ℕ) (b : A) → j < number → slice_get all j ≡ Some b → ¬ holds b

-- one element stands in a list before the other one does
pub record StandsBefore {A : Type 0} (all : List A) (a b : A) : Type 0 where
  pub number : ℕ
  pub stands : slice_get all number ≡ Some a
  pub later : (j : ℕ) → slice_get all j ≡ Some b → number < j

-- where two walks from an element part, the first takes the earlier step; before says of two steps
-- from an element whether the first is the earlier
abbrev pub PartsBefore : {A : Type 0} → (A → A → A → Type 0) → A → List A → List A → Type 0
PartsBefore before a (x ∷ xs) (y ∷ ys) = before a x y ⊎ ((x ≡ y) × PartsBefore before x xs ys)
PartsBefore before a _ _ = ⊥

-- of the shortest cycles through an element, the first
pub record IsFirstCycle {A : Type 0} (R : A → A → Type 0) (before : A → A → A → Type 0) (a : A) (xs : List A)
    : Type 0 where
  pub shortest : IsShortestCycle R a xs
  pub first : (ys : List A) → IsShortestCycle R a ys → (ys ≡ xs) ⊎ PartsBefore before a xs ys
