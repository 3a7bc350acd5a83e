-- Arrows that are added to the rows of a graph.
use Rattle.std.specs.Prelude.{◌≡◌, ◌⊎◌, ◌↔◌, ℕ, List, Option, Contains, Some, length}
use Rattle.smv_graph.specs.Graph.{Leads}

-- between rows, just these arrows are added
abbrev pub AreAdded : List (List (Option ℕ)) → (ℕ → ℕ → Type 0) → List (List (Option ℕ)) → Type 0
AreAdded old these new =
    (length new ≡ length old) × ((a b : ℕ) → Leads new a b ↔ (Leads old a b ⊎ these a b))

-- an arrow to a module from each that its row leads to
abbrev pub IsBack : List (Option ℕ) → ℕ → ℕ → ℕ → Type 0
IsBack row number a b = Contains row (Some a) × (b ≡ number)
