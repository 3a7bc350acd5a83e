-- Walks along a relation, cycles, and orders in which there are none.
use Rattle.std.specs.Prelude.{◌≤◌, List, [], ◌∷◌, ◌++◌, length, ⊤}

-- a walk from a to b: each step is one of the relation, and these stand between, in order
abbrev pub IsWalk : {A : Type 0} → (A → A → Type 0) → A → List A → A → Type 0
IsWalk R a [] b = R a b
IsWalk R a (x ∷ xs) b = R a x × IsWalk R x xs b

-- some walk leads back
abbrev pub IsOnCycle : {A : Type 0} → (A → A → Type 0) → A → Type 0
IsOnCycle {A} R a = (xs : List A) × IsWalk R a xs a

-- no walk from a back to itself is shorter
abbrev pub IsShortestCycle : {A : Type 0} → (A → A → Type 0) → A → List A → Type 0
IsShortestCycle {A} R a xs = IsWalk R a xs a × ((ys : List A) → IsWalk R a ys a → length xs ≤ length ys)

-- each element of a list is related only to what is among those before it, and these
abbrev pub IsTopological : {A : Type 0} → (A → A → Type 0) → (List A → A → Type 0) → List A → List A → Type 0
IsTopological R among before [] = ⊤
IsTopological {A} R among before (a ∷ as_) =
    ((b : A) → R a b → among before b) × IsTopological R among (before ++ a ∷ []) as_
