-- Modules that are on no cycle, since all to which they lead are on none.
use Rattle.std.proofs.Common.{◌≡◌, ◌+◌, ◌<◌, length, ℕ, List, sym, subst, inl, inr, eqb, take, get_or}
use Rattle.std.specs.Prelude.{Contains, Option, Some, None}
use Rattle.std.proofs.lemmas.List.{take_more}
use Rattle.std.proofs.lemmas.List.Elements.{Contains-push_cases}
use Rattle.indexmap.specs.IndexSet.{insert_key}
use Rattle.smv_meaning.specs.Walks.{IsOnCycle}
use Rattle.smv_meaning.proofs.Orders.{cycle_on}
use Rattle.smv_graph.specs.Graph.{Leads, row_of}
use Rattle.smv_graph.proofs.Queues.{inserted_only}

pub within_more : (row : List (Option ℕ)) (i : ℕ) (keys : List ℕ) → i < length row → ((b : ℕ) → Contains (take i row) (Some b) → Contains keys b) → ((b : ℕ) → get_or row i None ≡ Some b → Contains keys b) → (b : ℕ) → Contains (take (i + 1) row) (Some b) → Contains keys b
within_more row i keys l before here b c =
    elim (Contains-push_cases (take i row) (get_or row i None) (Some b) (subst (λ r. Contains r (Some b)) (take_more row i None l) c)) [
      | inl d ↦ before b d
      | inr e ↦ here b e
    ]

pub settled_more : (graph : List (List (Option ℕ))) (keys later : List ℕ) (n : ℕ) → ((a : ℕ) → Contains keys a → IsOnCycle (Leads graph) a → ⊥) → ((b : ℕ) → Contains (row_of graph n) (Some b) → Contains keys b) → later ≡ insert_key eqb keys n → (a : ℕ) → Contains later a → IsOnCycle (Leads graph) a → ⊥
settled_more graph keys later n none within e a c cycle = elim (inserted_only keys n a (subst (λ l. Contains l a) e c)) [
  | inl d ↦ none a d cycle
  | inr s ↦ (let next = cycle_on (Leads graph) a cycle in none next.0 (within next.0 (subst (λ k. Leads graph k next.0) (sym s) next.1)) next.2)
]
