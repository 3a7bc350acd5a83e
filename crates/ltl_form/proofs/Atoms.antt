-- The atoms of the nodes of a draft.
use Rattle.std.proofs.Common.{ℕ, Bool, true, false, List, [], ◌∷◌, ◌++◌, length, inl, inr, sym, subst, arith}
use Rattle.std.proofs.lemmas.Bool.{cases_lt}
use Rattle.std.proofs.lemmas.List.{get_or_append_left, get_or_push, length_push}
use Rattle.smv_tree.specs.declared.formula.FormOp.{FormOp}
use Rattle.smv_tree.specs.declared.formula.FormOp.TheVariants as op
use Rattle.ltl_form.specs.declared.node.NnfNode.{NnfNode}
use Rattle.ltl_form.specs.declared.node.NnfNode.TheVariants.{Literal}
use Rattle.ltl_form.specs.Nodes.{AtomWithin, AtomsWithin}
use Rattle.ltl_form.specs.Drafts.{always_node, joined_node}

pub atoms_added : (m : ℕ) (old : List NnfNode) (y : NnfNode) → AtomWithin m y → AtomsWithin m old → AtomsWithin m (old ++ y ∷ [])
atoms_added m old y a s i w = elim (cases_lt i (length old)) [
  | inl earlier ↦ subst (AtomWithin m) (sym (get_or_append_left old (y ∷ []) (Literal 0 false) i earlier)) (s i earlier)
  | inr last ↦ subst (AtomWithin m) (sym (get_or_push old y (Literal 0 false) i (omega (arith, length_push old y)))) a
]

pub always_atom : (m : ℕ) (b : Bool) (a : ℕ) → AtomWithin m (always_node b a)
always_atom m false a = tt
always_atom m true a = tt

pub joined_atom : (m : ℕ) (o : FormOp) (b : Bool) (c d : ℕ) → AtomWithin m (joined_node o b c d)
joined_atom m op.And false c d = tt
joined_atom m op.And true c d = tt
joined_atom m op.Or false c d = tt
joined_atom m op.Or true c d = tt
joined_atom m op.Implies false c d = tt
joined_atom m op.Implies true c d = tt
joined_atom m op.Until false c d = tt
joined_atom m op.Until true c d = tt
joined_atom m op.Releases false c d = tt
joined_atom m op.Releases true c d = tt
joined_atom m op.Xor b c d = tt
joined_atom m op.Xnor b c d = tt
joined_atom m op.Iff b c d = tt
