-- Numbers that wait in a queue, each once.
use Rattle.std.specs.Prelude.{◌≡◌, ◌⊎◌, ◌<◌, ℕ, List, ◌++◌, Contains, Option, Some, slice_get}
use Rattle.smv_graph.specs.Graph.{Leads, Reaches}

-- a queue after what a row leads to was added behind it
pub record IsAdded (old : List ℕ) (row : List (Option ℕ)) (new : List ℕ) : Type 0 where
  pub more : List ℕ
  pub behind : new ≡ old ++ more
  pub only : (b : ℕ) → Contains new b → Contains old b ⊎ Contains row (Some b)
  pub added : (b : ℕ) → Contains row (Some b) → Contains new b

-- a queue of modules that a module reaches, with what the first of them lead to, and what it leads to itself
pub record IsQueue (graph : List (List (Option ℕ))) (start next : ℕ) (keys : List ℕ) : Type 0 where
  pub sound : (b : ℕ) → Contains keys b → Reaches graph start b
  pub first : (b : ℕ) → Leads graph start b → Contains keys b
  pub done : (k a b : ℕ) → k < next → slice_get keys k ≡ Some a → Leads graph a b → Contains keys b
