-- How many steps lead from modules to one of them.
use Rattle.std.specs.Prelude.{◌≡◌, ◌≤◌, ℕ, zero, suc, List, ◌++◌, Contains, Option, Some, nat_eq}
use Rattle.std.specs.Map.{lookup}
use Rattle.smv_graph.specs.Graph.{Leads}

-- so many steps lead from the first to the second
abbrev pub Steps : {A : Type 0} → (A → A → Type 0) → ℕ → A → A → Type 0
Steps R zero a b = a ≡ b
Steps {A} R (suc n) a b = (x : A) × R a x × Steps R n x b

-- each module from which steps lead to the target, with the least number of them
pub record AreDistances (graph : List (List (Option ℕ))) (target : ℕ) (distances : List (ℕ × ℕ)) : Type 0 where
  pub sound : (a d : ℕ) → lookup (nat_eq a) distances ≡ Some d → Steps (Leads graph) d a target
  pub least : (a n : ℕ) → Steps (Leads graph) n a target → (d : ℕ) × (lookup (nat_eq a) distances ≡ Some d) × (d ≤ n)

-- the modules of a row at a distance, behind those that were there before
pub record AreNoted (old : List (ℕ × ℕ)) (row : List (Option ℕ)) (distance : ℕ) (new : List (ℕ × ℕ)) : Type 0 where
  pub more : List (ℕ × ℕ)
  pub behind : new ≡ old ++ more
  pub only : (a d : ℕ) → Contains more (a, d) → (d ≡ distance) × Contains row (Some a)
  pub noted : (a : ℕ) → Contains row (Some a) → (d : ℕ) × (lookup (nat_eq a) new ≡ Some d)
