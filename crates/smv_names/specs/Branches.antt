-- The twin of a branch of a case.
use Rattle.smv_tree.specs.Trees.{Tree, expr_step, branch_step}
use Rattle.smv_tree.specs.declared.expr.Branch.{Branch, fold-Branch}

-- its condition and its value
abbrev pub branch_trees : Branch → Tree × Tree
branch_trees = fold-Branch Tree (Tree × Tree) expr_step branch_step
