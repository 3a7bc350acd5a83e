use Rattle.std.proofs.Common.{rules, ◌≡◌, ◌++◌, ap, sym, ◌∙◌}
use Rattle.smv_tree.specs.Trees.{expr_tree, choice, two}
use Rattle.smv_tree.specs.declared.expr.Expr.TheFolds.{the_lemmas}
use Rattle.type_fault.specs.First.{earliest}
use Rattle.smv_names.specs.Unknown.{unknown_in}
use Rattle.smv_names.proofs.Unknowns.{none_first, expression_next, branch_next, first_both, of_part}
use Rattle.smv_names.proofs.unknown.+first_unknown.Goals as goal

pub unknown_in_all-loop-e-init : goal.unknown_in_all-loop-e-init
unknown_in_all-loop-e-init g t c = none_first

pub unknown_in_all-loop-e-preserved : goal.unknown_in_all-loop-e-preserved
unknown_in_all-loop-e-preserved g t c =
    expression_next (g.K.Known.known c.args.known.now) c.loop-e.first c.in_ok-unknown_in.field-0 c.earlier-first.result c.args.es.now c.loop-e.e-index c.e-item.result c.loop-e-test.true c.e-item.is c.loop-e.invariant c.in_ok-unknown_in.ensures c.earlier-first.ensures

pub unknown_in_branches-loop-branch-init : goal.unknown_in_branches-loop-branch-init
unknown_in_branches-loop-branch-init g t c = none_first

pub unknown_in_branches-loop-branch-preserved : goal.unknown_in_branches-loop-branch-preserved
unknown_in_branches-loop-branch-preserved g t c =
    branch_next (g.K.Known.known c.args.known.now) c.loop-branch.first c.in_ok-unknown_in_branch.field-0 c.earlier-first.result c.args.branches.now c.loop-branch.branch-index c.branch-item.result c.loop-branch-test.true c.branch-item.is c.loop-branch.invariant c.in_ok-unknown_in_branch.ensures c.earlier-first.ensures

pub unknown_in-returns-in_ok-other-in-If : goal.unknown_in-returns-in_ok-other-in-If
unknown_in-returns-in_ok-other-in-If g t c =
    let known = g.K.Known.known c.args.known.now in
    let x = unknown_in known (expr_tree c.in-If.condition.value) in
    let y = unknown_in known (expr_tree c.in-If.value.value) in
    let z = unknown_in known (expr_tree c.in-If.other.value) in
    let condition = of_part expr_tree (unknown_in known) c.deref.ensures c.in_ok-condition-in-If.ensures in
    let value = of_part expr_tree (unknown_in known) c.deref-in-If.ensures c.in_ok-value-in-If.ensures in
    let other = of_part expr_tree (unknown_in known) c.deref-in-If-2.ensures c.in_ok-other-in-If.ensures in
    let later = first_both y z c.in_ok-value-in-If.value c.in_ok-other-in-If.other c.earlier.result value other c.earlier.ensures in
    let all = first_both x (y ++ z) c.in_ok-condition-in-If.condition c.earlier.result c.earlier-in-If.result condition later c.earlier-in-If.ensures in
    let whole : expr_tree c.args.e.now ≡ choice c.in-If.field-0 (expr_tree c.in-If.condition.value) (expr_tree c.in-If.value.value) (expr_tree c.in-If.other.value) = search (rules, the_lemmas) in
    all ∙ sym (ap (λ w. earliest (unknown_in known w)) whole)

pub unknown_in-returns-in_ok-right-in-Two : goal.unknown_in-returns-in_ok-right-in-Two
unknown_in-returns-in_ok-right-in-Two g t c =
    let known = g.K.Known.known c.args.known.now in
    let x = unknown_in known (expr_tree c.in-Two.left.value) in
    let y = unknown_in known (expr_tree c.in-Two.right.value) in
    let left = of_part expr_tree (unknown_in known) c.deref-in-Two.ensures c.in_ok-left-in-Two.ensures in
    let right = of_part expr_tree (unknown_in known) c.deref-in-Two-2.ensures c.in_ok-right-in-Two.ensures in
    let both = first_both x y c.in_ok-left-in-Two.left c.in_ok-right-in-Two.right c.earlier-in-Two.result left right c.earlier-in-Two.ensures in
    let whole : expr_tree c.args.e.now ≡ two c.in-Two.field-0 c.in-Two.field-1 (expr_tree c.in-Two.left.value) (expr_tree c.in-Two.right.value) = search (rules, the_lemmas) in
    both ∙ sym (ap (λ w. earliest (unknown_in known w)) whole)
