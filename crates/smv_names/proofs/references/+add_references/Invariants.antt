use Rattle.std.proofs.Common.{◌≡◌, ◌++◌, map, take}
use Rattle.smv_tree.specs.Trees.{expr_tree, trees, arms}
use Rattle.smv_meaning.specs.Definitions.{names_in_all, names_in_arms}
use Rattle.smv_names.specs.Branches.{branch_trees}
use Rattle.smv_names.proofs.references.+add_references.Given as goal

abbrev pub invariant-with_all-loop-e : goal.invariant-with_all-loop-e
invariant-with_all-loop-e g l = l.row.items ≡ l.fn.row.items ++ map (g.L.Lookup.found l.lookup) (names_in_all (trees (map expr_tree (take l.e-index l.es))))

abbrev pub invariant-with_branches-loop-branch : goal.invariant-with_branches-loop-branch
invariant-with_branches-loop-branch g l = l.row.items ≡ l.fn.row.items ++ map (g.L.Lookup.found l.lookup) (names_in_arms (arms (map branch_trees (take l.branch-index l.branches))))
