-- The branches of a case, as the definitions see them.
use Rattle.smv_tree.specs.declared.expr.Branch.{Branch, fold-Branch}
use Rattle.smv_tree.specs.Trees.{Tree, branch_step, expr_step}

-- a branch of a case: its condition and its value
abbrev pub arm_of : Branch → Tree × Tree
arm_of = fold-Branch Tree (Tree × Tree) expr_step branch_step
