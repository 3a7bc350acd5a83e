use Rattle.std.proofs.Common.{◌≡◌, map, take}
use Rattle.smv_tree.specs.Trees.{expr_tree, trees, arms}
use Rattle.smv_typing.specs.Judging.{all_judged, arms_judged}
use Rattle.smv_typing.specs.Firsts.{firsts}
use Rattle.smv_typing.specs.Kept.{branch_trees}
use Rattle.smv_typing.proofs.expression.+judge.Given as goal

abbrev pub invariant-judge_all-loop-e : goal.invariant-judge_all-loop-e
invariant-judge_all-loop-e g l = l.all ≡ firsts (all_judged (g.N.Names.told l.names) l.scope (trees (map expr_tree (take l.e-index l.es))))

abbrev pub invariant-judge_branches-loop-branch : goal.invariant-judge_branches-loop-branch
invariant-judge_branches-loop-branch g l = l.all ≡ firsts (arms_judged (g.N.Names.told l.names) l.scope (arms (map branch_trees (take l.branch-index l.branches))))
