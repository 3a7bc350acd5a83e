-- Tables that say which atoms hold in which states.
use Rattle.std.specs.Prelude.{◌≡◌, ℕ, ◌<◌, Bool, List, length, IsTrue, Decides}
use Rattle.smv_tree.specs.Trees.{Tree}
use Rattle.ltl_form.specs.Nodes.{AtomsWithin}
use Rattle.ltl_form.specs.Rows.{told_at, row_at}
use Rattle.ltl_form.specs.declared.node.NnfNode.{NnfNode}

-- each row of a table has so many states
abbrev pub StatesEach : ℕ → List (List Bool) → Type 0
StatesEach states table = (a : ℕ) → a < length table → length (row_at table a) ≡ states

-- a table has a row of so many states for each atom, and one for each that the nodes name
pub record Covers (table : List (List Bool)) (states : ℕ) (nodes : List NnfNode) : Type 0 where
  pub states_each : StatesEach states table
  pub atoms : AtomsWithin (length table) nodes

-- a table tells in which of the first states the expressions of the atoms hold
abbrev pub DecidesAtomsBelow :
    ℕ → List (List Bool) → (ℕ → Tree) → (Tree → ℕ → Type 0) → Type 0
DecidesAtomsBelow states table names holds =
    (a p : ℕ) → a < length table → p < states →
    Decides (told_at table a p) (holds (names a) p)

-- where a test passes
abbrev pub passes : (Tree → ℕ → Bool) → Tree → ℕ → Type 0
passes test e p = IsTrue (test e p)
