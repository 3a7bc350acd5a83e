use Rattle.std.specs.Prelude.{◌≡◌, ℕ, ◌<◌, ◌≤◌, Bool, true, false, ◌&&◌, not, if◌then◌else◌, List, [], ◌∷◌, ◌++◌, length, map, slice_index_or}
use Rattle.gates.specs.Literal.{Literal}
use Rattle.gates.specs.declared.node.Node.{Node}
use Rattle.gates.specs.declared.node.Node.TheVariants.{True, Input, And}
use Rattle.gates.specs.Nodes.{node_at}

-- the truth value of a node's number
abbrev pub value_at : List Bool → ℕ → Bool
value_at values n = slice_index_or values n false

-- the value of a literal, where the nodes have these values
unfoldable pub value_of : List Bool → Literal → Bool
value_of values l = if l.negative then not (value_at values l.node) else value_at values l.node

-- the values of literals
abbrev pub values_of : List Bool → List Literal → List Bool
values_of values ls = map (value_of values) ls

-- a node may have this value: the constant is true, an input is free, a conjunction is that of its
-- parts
abbrev pub MayBe : List Bool → Node → Bool → Type 0
MayBe values True v = v ≡ true
MayBe values Input v = Unit {0}
MayBe values (And a b) v = v ≡ (value_of values a && value_of values b)

-- the truth values make the constant true, and give each node a value that it may have; further
-- ones may follow
pub record IsValuation (nodes : List Node) (values : List Bool) : Type 0 where
  pub enough : length nodes ≤ length values
  pub constant : value_at values 0 ≡ true
  pub agrees : (n : ℕ) → n < length nodes → MayBe values (node_at nodes n) (value_at values n)

-- so it is of the truth values in every valuation of the nodes
abbrev pub InAll : List Node → (List Bool → Type 0) → Type 0
InAll nodes P = (values : List Bool) → IsValuation nodes values → P values

-- each input has its value from the list of inputs
abbrev pub FollowsInputs : List Node → List Bool → List Bool → Type 0
FollowsInputs nodes inputs values =
    (n : ℕ) → n < length nodes → node_at nodes n ≡ Input → value_at values n ≡ value_at inputs n

-- the parts of a node are among the first n nodes
abbrev pub PartsWithin : ℕ → Node → Type 0
PartsWithin n True = Unit {0}
PartsWithin n Input = Unit {0}
PartsWithin n (And a b) = (a.node < n) × (b.node < n)

-- the value of a node, from those of its parts and that of an input
abbrev pub next_value : List Bool → Node → Bool → Bool
next_value values True input = true
next_value values Input input = input
next_value values (And a b) input = value_of values a && value_of values b

-- the values of nodes, one after another, where these come before them and the inputs have these
-- values
abbrev pub values_after : List Bool → List Node → List Bool → List Bool
values_after values [] inputs = values
values_after values (y ∷ nodes) inputs =
    values_after (values ++ next_value values y (value_at inputs (length values)) ∷ []) nodes inputs

-- the one valuation of well formed nodes, as long as they are, in which the inputs have these
-- values
abbrev pub valuation_of : List Node → List Bool → List Bool
valuation_of nodes inputs = values_after [] nodes inputs
