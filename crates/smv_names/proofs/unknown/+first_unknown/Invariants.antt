use Rattle.std.proofs.Common.{◌≡◌, map, take}
use Rattle.smv_tree.specs.Trees.{expr_tree, trees, arms}
use Rattle.type_fault.specs.First.{earliest}
use Rattle.smv_names.specs.Branches.{branch_trees}
use Rattle.smv_names.specs.Unknown.{unknown_in_all, unknown_in_arms}
use Rattle.smv_names.proofs.unknown.+first_unknown.Given as goal

abbrev pub invariant-unknown_in_all-loop-e : goal.invariant-unknown_in_all-loop-e
invariant-unknown_in_all-loop-e g l = l.first ≡ earliest (unknown_in_all (g.K.Known.known l.known) (trees (map expr_tree (take l.e-index l.es))))

abbrev pub invariant-unknown_in_branches-loop-branch : goal.invariant-unknown_in_branches-loop-branch
invariant-unknown_in_branches-loop-branch g l = l.first ≡ earliest (unknown_in_arms (g.K.Known.known l.known) (arms (map branch_trees (take l.branch-index l.branches))))
