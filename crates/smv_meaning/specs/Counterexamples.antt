-- Counterexamples: paths and lassos on which a formula is false.
use Rattle.std.specs.Prelude.{◌≡◌, ℕ, ◌+◌, ◌<◌, false, List, Option, Some, None, length, slice_get, IsSomeAnd, ⊤}
use Rattle.smv_tree.specs.Trees.{Tree}
use Rattle.smv_tree.specs.Models.{Body, Claim}
use Rattle.smv_tree.specs.declared.value.Value.{Value}
use Rattle.smv_meaning.specs.Runs.{Holds, IsRun, at_state, nothing_else}
use Rattle.smv_meaning.specs.Places.{place}
use Rattle.smv_meaning.specs.LassoTruth.{TrueAt}
use Rattle.smv_meaning.specs.SettledTruth.{Settled}
use Rattle.smv_meaning.specs.Marks.{MarkedRun, LoopChoice, no_loop, any_loop, loop_to, loop_back}
use Rattle.smv_meaning.specs.Repeats.{Repeats}

-- a choice admits at bound k a path without a mark, or the lasso k, l of a mark l
abbrev pub Admits : LoopChoice → ℕ → Option ℕ → Type 0
Admits no_loop k None = ⊤
Admits no_loop k (Some l) = ⊥
Admits any_loop k None = ⊤
Admits any_loop k (Some l) = l < k
Admits (loop_to n) k None = ⊥
Admits (loop_to n) k (Some l) = (l ≡ n) × (l < k)
Admits (loop_back n) k None = ⊥
Admits (loop_back n) k (Some l) = (l + n ≡ k) × (l < k)

-- a choice admits something at bound k
abbrev pub IsValid : LoopChoice → ℕ → Type 0
IsValid choice k = (mark : Option ℕ) × Admits choice k mark

-- an expression of an instance holds in the state of this number
abbrev pub HoldsIn : List Body → List (List ℕ) → List (List Value) → Tree → ℕ → Type 0
HoldsIn program up states e p =
    IsSomeAnd (slice_get states p) (λ s. Holds program (at_state s) nothing_else up e)

-- a formula of an instance is false on states 0 to k: as a path, whatever comes after it, or as a
-- lasso, whose last state is that of the mark again
abbrev pub Refutes : List Body → List (List ℕ) → Claim → ℕ → List (List Value) → Option ℕ → Type 0
Refutes program up f k states None = Settled (HoldsIn program up states) k f false 0
Refutes program up f k states (Some l) = Repeats states l × (¬ TrueAt k l (HoldsIn program up states) f 0)

-- a run of length k is a counterexample to a formula of an instance, on a path or a loop that the
-- choice admits
pub record IsCounterexample (program : List Body) (up : List (List ℕ)) (f : Claim) (k : ℕ)
    (choice : LoopChoice) (run : MarkedRun) : Type 0 where
  pub is_run : IsRun program run.states run.inputs
  pub has_length : length run.states ≡ k + 1
  pub admitted : Admits choice k run.mark
  pub refutes : Refutes program up f k run.states run.mark

-- the infinite word of a lasso k, l over some states begins with other states
abbrev pub WordBegins : ℕ → ℕ → List (List Value) → List (List Value) → Type 0
WordBegins k l states front =
    (p : ℕ) → p < length front → slice_get front p ≡ slice_get states (place k l 0 p)
