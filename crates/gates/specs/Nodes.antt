use Rattle.std.specs.Prelude.{◌≡◌, ℕ, ◌<◌, ◌≤◌, Bool, true, false, List, ◌++◌, length, take, slice_index_or, IsTrue}
use Rattle.std.specs.List.{AllByRecursion}
use Rattle.gates.specs.Literal.{Literal, span}
use Rattle.gates.specs.declared.node.Node.{Node}
use Rattle.gates.specs.declared.node.Node.TheVariants.{True, Input, And}

-- the node of a number
abbrev pub node_at : List Node → ℕ → Node
node_at nodes n = slice_index_or nodes n True

-- where a node may stand: the constant comes first and once, and the parts of a conjunction are
-- literals of two earlier nodes that are no constants, the earlier one first
abbrev pub StandsAt : ℕ → Node → Type 0
StandsAt n True = n ≡ 0
StandsAt n Input = 0 < n
StandsAt n (And a b) = (0 < a.node) × (a.node < b.node) × (b.node < n)

-- what all nodes of gates keep
pub record WellFormed (nodes : List Node) : Type 0 where
  pub constant : 0 < length nodes
  pub placed : (n : ℕ) → n < length nodes → StandsAt n (node_at nodes n)

-- the new nodes are the old ones, with more behind them
pub record Grows (old new : List Node) : Type 0 where
  pub longer : length old ≤ length new
  pub kept : take (length old) new ≡ old

-- the literal's node is one of these
abbrev pub Belongs : List Node → Literal → Type 0
Belongs nodes l = l.node < length nodes

-- the node of each of the literals is one of these
abbrev pub AllBelong : List Node → List Literal → Type 0
AllBelong nodes ls = span ls ≤ length nodes

-- whether a node is a conjunction
abbrev pub is_conjunction : Node → Bool
is_conjunction True = false
is_conjunction Input = false
is_conjunction (And a b) = true

-- the new nodes are the old ones, with conjunctions behind them and nothing else
pub record AddsConjunctions (old new : List Node) : Type 0 where
  pub added : List Node
  pub longer : new ≡ old ++ added
  pub all_conjunctions : AllByRecursion (λ y. IsTrue (is_conjunction y)) added
