-- Formulas in negation normal form, as lists of nodes.
use Rattle.std.specs.Prelude.{◌≡◌, ℕ, ◌-◌, ◌<◌, true, false, List, length, Some, ⊤}
use Rattle.std.specs.Prelude.{slice_get, slice_index_or}
use Rattle.smv_tree.specs.Trees.{Tree}
use Rattle.smv_tree.specs.Models.{Claim, atom, no, after, always, some_time, both}
use Rattle.smv_tree.specs.declared.formula.FormOp.TheVariants as op
use Rattle.ltl_form.specs.declared.node.NnfNode.{NnfNode}
use Rattle.ltl_form.specs.declared.node.NnfNode.TheVariants.{Literal, And, Or, Next}
use Rattle.ltl_form.specs.declared.node.NnfNode.TheVariants.{Until, Releases, Always, Eventually}

-- the node of a number
abbrev pub node_at : List NnfNode → ℕ → NnfNode
node_at nodes n = slice_index_or nodes n (Literal 0 false)

-- the number of the last node, which is the formula
abbrev pub root : List NnfNode → ℕ
root nodes = length nodes - 1

-- the parts of a node are among the first n nodes
abbrev pub PartsWithin : ℕ → NnfNode → Type 0
PartsWithin n (Literal a negated) = ⊤
PartsWithin n (And a b) = (a < n) × (b < n)
PartsWithin n (Or a b) = (a < n) × (b < n)
PartsWithin n (Next a) = a < n
PartsWithin n (Until a b) = (a < n) × (b < n)
PartsWithin n (Releases a b) = (a < n) × (b < n)
PartsWithin n (Always a) = a < n
PartsWithin n (Eventually a) = a < n

-- the atom of a node is among the first n
abbrev pub AtomWithin : ℕ → NnfNode → Type 0
AtomWithin n (Literal a negated) = a < n
AtomWithin n (And a b) = ⊤
AtomWithin n (Or a b) = ⊤
AtomWithin n (Next a) = ⊤
AtomWithin n (Until a b) = ⊤
AtomWithin n (Releases a b) = ⊤
AtomWithin n (Always a) = ⊤
AtomWithin n (Eventually a) = ⊤

-- and those of all nodes
abbrev pub AtomsWithin : ℕ → List NnfNode → Type 0
AtomsWithin n nodes = (i : ℕ) → i < length nodes → AtomWithin n (node_at nodes i)

-- each node names earlier ones
abbrev pub IsOrdered : List NnfNode → Type 0
IsOrdered nodes = (i : ℕ) → i < length nodes → PartsWithin i (node_at nodes i)

-- the node of a number says this formula, where the atoms are these expressions
pub data Says (names : ℕ → Tree) (nodes : List NnfNode) : ℕ → Claim → Type 0 where
  plain : (i a : ℕ) → slice_get nodes i ≡ Some (Literal a false) →
      Says names nodes i (atom (names a))
  negated : (i a : ℕ) → slice_get nodes i ≡ Some (Literal a true) →
      Says names nodes i (no (atom (names a)))
  and_ : (i a b : ℕ) (f g : Claim) → slice_get nodes i ≡ Some (And a b) →
      Says names nodes a f → Says names nodes b g → Says names nodes i (both op.And f g)
  or_ : (i a b : ℕ) (f g : Claim) → slice_get nodes i ≡ Some (Or a b) →
      Says names nodes a f → Says names nodes b g → Says names nodes i (both op.Or f g)
  next : (i a : ℕ) (f : Claim) → slice_get nodes i ≡ Some (Next a) →
      Says names nodes a f → Says names nodes i (after f)
  until : (i a b : ℕ) (f g : Claim) → slice_get nodes i ≡ Some (Until a b) →
      Says names nodes a f → Says names nodes b g → Says names nodes i (both op.Until f g)
  releases : (i a b : ℕ) (f g : Claim) → slice_get nodes i ≡ Some (Releases a b) →
      Says names nodes a f → Says names nodes b g → Says names nodes i (both op.Releases f g)
  throughout : (i a : ℕ) (f : Claim) → slice_get nodes i ≡ Some (Always a) →
      Says names nodes a f → Says names nodes i (always f)
  eventually : (i a : ℕ) (f : Claim) → slice_get nodes i ≡ Some (Eventually a) →
      Says names nodes a f → Says names nodes i (some_time f)
