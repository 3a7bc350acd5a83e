-- Which of the steps from a module is taken.
use Rattle.std.specs.Prelude.{◌≡◌, ◌⊎◌, ◌<◌, ◌≤◌, ℕ, List, Contains, Option, Some, None, min, nat_eq}
use Rattle.std.specs.Map.{lookup}
use Rattle.smv_meaning.specs.FirstCycles.{StandsBefore}
use Rattle.smv_graph.specs.Graph.{row_of}
use Rattle.smv_graph.specs.declared.choice.StepOrder.{StepOrder}
use Rattle.smv_graph.specs.declared.choice.StepOrder.TheVariants.{ByNumber, ByRow}

-- of two modules to which a row leads, the first comes before the other
abbrev pub ComesBefore : StepOrder → List (Option ℕ) → ℕ → ℕ → Type 0
ComesBefore ByNumber row b c = b < c
ComesBefore ByRow row b c = StandsBefore row (Some b) (Some c)

-- of two steps from a module, the first is the earlier
abbrev pub GoesBefore : StepOrder → List (List (Option ℕ)) → ℕ → ℕ → ℕ → Type 0
GoesBefore order graph a = ComesBefore order (row_of graph a)

-- a row leads to a module at this distance
abbrev pub LeadsAt : List (ℕ × ℕ) → List (Option ℕ) → ℕ → ℕ → Type 0
LeadsAt distances row d b = Contains row (Some b) × (lookup (nat_eq b) distances ≡ Some d)

-- the first step of a row to a module at this distance, if there is one
abbrev pub IsChosen : StepOrder → List (ℕ × ℕ) → List (Option ℕ) → ℕ → Option ℕ → Type 0
IsChosen order distances row d None = (b : ℕ) → ¬ LeadsAt distances row d b
IsChosen order distances row d (Some b) =
    LeadsAt distances row d b × ((c : ℕ) → LeadsAt distances row d c → (c ≡ b) ⊎ ComesBefore order row b c)

-- the least of some numbers, if there are any
abbrev pub IsLeast : (ℕ → Type 0) → Option ℕ → Type 0
IsLeast These None = (n : ℕ) → ¬ These n
IsLeast These (Some m) = These m × ((n : ℕ) → These n → m ≤ n)

abbrev pub lesser : Option ℕ → Option ℕ → Option ℕ
lesser None b = b
lesser (Some a) None = Some a
lesser (Some a) (Some b) = Some (min a b)
