-- Rows of literals, and the rows of truth values that they have.
use Rattle.std.specs.Prelude.{◌≡◌, ℕ, ◌<◌, Bool, true, false, List, [], length, map, slice_index_or}
use Rattle.gates.specs.Literal.{Literal, always, negated}
use Rattle.gates.specs.declared.node.Node.{Node}
use Rattle.gates.specs.Nodes.{Belongs}
use Rattle.gates.specs.Valuation.{values_of}
use Rattle.ltl_form.specs.declared.node.NnfNode.{NnfNode}
use Rattle.ltl_form.specs.Nodes.{AtomsWithin}

-- the literal of a place
abbrev pub lit_at : List Literal → ℕ → Literal
lit_at row p = slice_index_or row p always

-- the row of a number
abbrev pub lits_at : List (List Literal) → ℕ → List Literal
lits_at rows n = slice_index_or rows n []

-- a literal, or its negation
abbrev pub signed_lit : Bool → Literal → Literal
signed_lit true a = negated a
signed_lit false a = a

-- what rows of literals tell, where the nodes have these values
abbrev pub told_rows : List Bool → List (List Literal) → List (List Bool)
told_rows values rows = map (values_of values) rows

-- the literals of a row are of these nodes
abbrev pub RowBelongs : List Node → List Literal → Type 0
RowBelongs nodes row = (p : ℕ) → p < length row → Belongs nodes (lit_at row p)

-- and those of rows
abbrev pub RowsBelong : List Node → List (List Literal) → Type 0
RowsBelong nodes rows = (a : ℕ) → a < length rows → RowBelongs nodes (lits_at rows a)

-- each row of a table has so many states
abbrev pub StatesEach : ℕ → List (List Literal) → Type 0
StatesEach states table = (a : ℕ) → a < length table → length (lits_at table a) ≡ states

-- a table has a row of so many states for each atom, and one for each that the nodes name
pub record CoversLits (table : List (List Literal)) (states : ℕ)
    (nodes : List NnfNode) : Type 0 where
  pub states_each : StatesEach states table
  pub atoms : AtomsWithin (length table) nodes
