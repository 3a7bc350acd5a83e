-- Lists of nodes that are being made.
use Rattle.std.specs.Prelude.{◌≡◌, ℕ, Bool, true, false, not, ◌++◌, List}
use Rattle.smv_tree.specs.Trees.{Tree}
use Rattle.smv_tree.specs.Models.{Claim}
use Rattle.smv_tree.specs.declared.formula.FormOp.{FormOp}
use Rattle.smv_tree.specs.declared.formula.FormOp.TheVariants as op
use Rattle.ltl_form.specs.declared.node.NnfNode.{NnfNode}
use Rattle.ltl_form.specs.declared.node.NnfNode.TheVariants.{And, Or, Until, Releases}
use Rattle.ltl_form.specs.declared.node.NnfNode.TheVariants.{Always, Eventually}
use Rattle.ltl_form.specs.Nodes.{Says}
use Rattle.ltl_form.specs.Normal.{normal}

-- the old nodes stay, with more behind them
pub record Extends (old new : List NnfNode) : Type 0 where
  pub more : List NnfNode
  pub longer : new ≡ old ++ more

-- one node says the formula, and one its negation
pub record SaysTwo (names : ℕ → Tree) (nodes : List NnfNode) (a b : ℕ) (f : Claim) : Type 0 where
  pub plain : Says names nodes a (normal false f)
  pub negated : Says names nodes b (normal true f)

-- the node of `G`, or of its negation, over the part or its negation
abbrev pub always_node : Bool → ℕ → NnfNode
always_node false a = Always a
always_node true a = Eventually a

-- whether the left part is negated where the formula, or its negation, is normal
abbrev pub left_negated : FormOp → Bool → Bool
left_negated op.Implies b = not b
left_negated op.And b = b
left_negated op.Or b = b
left_negated op.Until b = b
left_negated op.Releases b = b
left_negated op.Xor b = b
left_negated op.Xnor b = b
left_negated op.Iff b = b

-- the node of an operator, or of its negation, over two parts; one that compares has none
abbrev pub joined_node : FormOp → Bool → ℕ → ℕ → NnfNode
joined_node op.And false a b = And a b
joined_node op.And true a b = Or a b
joined_node op.Or false a b = Or a b
joined_node op.Or true a b = And a b
joined_node op.Implies false a b = Or a b
joined_node op.Implies true a b = And a b
joined_node op.Until false a b = Until a b
joined_node op.Until true a b = Releases a b
joined_node op.Releases false a b = Releases a b
joined_node op.Releases true a b = Until a b
joined_node op.Xor negated a b = And a b
joined_node op.Xnor negated a b = And a b
joined_node op.Iff negated a b = And a b

-- whether an operator that compares, or its negation, asks that its parts are equal
abbrev pub equal_asked : FormOp → Bool → Bool
equal_asked op.Xor b = b
equal_asked op.Xnor b = not b
equal_asked op.Iff b = not b
equal_asked op.And b = not b
equal_asked op.Or b = not b
equal_asked op.Implies b = not b
equal_asked op.Until b = not b
equal_asked op.Releases b = not b
