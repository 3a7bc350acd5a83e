-- Rows of truth values, one for each node of a formula, and how each comes from those of its parts.
use Rattle.std.specs.Prelude.{◌≡◌, ℕ, ◌+◌, ◌<◌, Bool, true, false, not, ◌&&◌, ◌||◌, nat_lt}
use Rattle.std.specs.Prelude.{List, [], length, slice_index_or}
use Rattle.smv_meaning.specs.Places.{next_place}
use Rattle.smv_meaning.specs.Sweeps.{ahead, around, along, along_both}
use Rattle.ltl_form.specs.Nodes.{node_at, root}
use Rattle.ltl_form.specs.declared.node.NnfNode.{NnfNode}
use Rattle.ltl_form.specs.declared.node.NnfNode.TheVariants.{Literal, And, Or, Next}
use Rattle.ltl_form.specs.declared.node.NnfNode.TheVariants.{Until, Releases, Always, Eventually}

-- what a row tells of a place
abbrev pub told : List Bool → ℕ → Bool
told row p = slice_index_or row p false

-- the row of a number
abbrev pub row_at : List (List Bool) → ℕ → List Bool
row_at rows n = slice_index_or rows n []

-- what the row of a number tells of a place
abbrev pub told_at : List (List Bool) → ℕ → ℕ → Bool
told_at rows n p = told (row_at rows n) p

-- a truth value, or its negation
abbrev pub turned : Bool → Bool → Bool
turned true b = not b
turned false b = b

-- the same of a test
abbrev pub turned_all : Bool → (ℕ → Bool) → ℕ → Bool
turned_all dual test q = turned dual (test q)

-- what a sweep finds, or its dual: what the sweep over the negations finds, negated
abbrev pub ahead_turned : Bool → ℕ → (ℕ → Bool) → (ℕ → Bool) → Bool → ℕ → Bool
ahead_turned dual k first second last p =
    turned dual (ahead k (turned_all dual first) (turned_all dual second) (turned dual last) p)

-- what two sweeps around a loop find, or the dual of it
abbrev pub around_turned : Bool → ℕ → ℕ → (ℕ → Bool) → (ℕ → Bool) → ℕ → Bool
around_turned dual k l first second p =
    turned dual (around k l (turned_all dual first) (turned_all dual second) p)

-- whether a node holds at a place of the lasso k, l, by the rows of the atoms and of its parts
abbrev pub lasso_value : ℕ → ℕ → List (List Bool) → List (List Bool) → NnfNode → ℕ → Bool
lasso_value k l table rows (Literal a negated) p = turned negated (told_at table a p)
lasso_value k l table rows (And a b) p = told_at rows a p && told_at rows b p
lasso_value k l table rows (Or a b) p = told_at rows a p || told_at rows b p
lasso_value k l table rows (Next a) p = told_at rows a (next_place k l p)
lasso_value k l table rows (Until a b) p = around k l (told_at rows a) (told_at rows b) p
lasso_value k l table rows (Releases a b) p =
    around_turned true k l (told_at rows a) (told_at rows b) p
lasso_value k l table rows (Always a) p = around_turned true k l (λ _. false) (told_at rows a) p
lasso_value k l table rows (Eventually a) p = around k l (λ _. true) (told_at rows a) p

-- whether the states 0 to k settle at a place that a node holds, by the same rows
abbrev pub short_value : ℕ → List (List Bool) → List (List Bool) → NnfNode → ℕ → Bool
short_value k table rows (Literal a negated) p = turned negated (told_at table a p)
short_value k table rows (And a b) p = told_at rows a p && told_at rows b p
short_value k table rows (Or a b) p = told_at rows a p || told_at rows b p
short_value k table rows (Next a) p = nat_lt p k && told_at rows a (p + 1)
short_value k table rows (Until a b) p = along k (told_at rows a) (told_at rows b) p
short_value k table rows (Releases a b) p = along_both k (told_at rows a) (told_at rows b) p
short_value k table rows (Always a) p = false
short_value k table rows (Eventually a) p = along k (λ _. true) (told_at rows a) p

-- a row has so many places and these values
pub record IsRow (places : ℕ) (value : ℕ → Bool) (row : List Bool) : Type 0 where
  pub has : length row ≡ places
  pub values : (p : ℕ) → p < places → told row p ≡ value p

-- each node has a row of so many places, with the values that the rows give it
pub record AreRows (places : ℕ) (value : List (List Bool) → NnfNode → ℕ → Bool)
    (nodes : List NnfNode) (rows : List (List Bool)) : Type 0 where
  pub count : length rows ≡ length nodes
  pub each : (i : ℕ) → i < length nodes →
      IsRow places (value rows (node_at nodes i)) (row_at rows i)

-- a truth value is that of the formula at a place, in some rows of the lasso k, l
pub record LassoTells (k l : ℕ) (table : List (List Bool)) (nodes : List NnfNode)
    (p : ℕ) (b : Bool) : Type 0 where
  pub rows : List (List Bool)
  pub right : AreRows k (lasso_value k l table) nodes rows
  pub told_so : told_at rows (root nodes) p ≡ b

-- or in some rows of the states 0 to k
pub record ShortTells (k : ℕ) (table : List (List Bool)) (nodes : List NnfNode)
    (p : ℕ) (b : Bool) : Type 0 where
  pub rows : List (List Bool)
  pub right : AreRows (k + 1) (short_value k table) nodes rows
  pub told_so : told_at rows (root nodes) p ≡ b
