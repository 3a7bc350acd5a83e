use Rattle.std.proofs.Common.{rules, ◌≡◌, [], map, take, ap, ◌∙◌}
use Rattle.std.specs.Prelude.{Ok}
use Rattle.smv_tree.specs.Trees.{expr_tree, trees, arms, set, cases, choice, two, select, next, widen, count}
use Rattle.smv_tree.specs.declared.expr.Expr.TheFolds.{the_lemmas}
use Rattle.smv_typing.specs.Judging.{judged, all_judged, arms_judged, both, pair, within_next, one_at, two_at, select_at, next_at, widen_at, set_at, count_at, cases_at, choice_at}
use Rattle.smv_typing.specs.Firsts.{firsts}
use Rattle.smv_typing.specs.Kept.{branch_trees, behind, arm_behind}
use Rattle.smv_typing.proofs.Kept.{over_firsts, both_firsts}
use Rattle.smv_typing.proofs.Lists.{all_step, arms_step}
use Rattle.smv_typing.proofs.Parts.{of_part, of_whole}
use Rattle.smv_typing.proofs.expression.+judge.Goals as goal

pub judge-returns-in_ok-members-in-Set : goal.judge-returns-in_ok-members-in-Set
unfolding judged
judge-returns-in_ok-members-in-Set g t c =
    let told = g.N.Names.told c.args.names.now in
    let s = c.args.scope in
    let members : c.in_ok-members-in-Set.members ≡ firsts (all_judged told s (trees (map expr_tree c.in-Set.es.items))) =
    c.in_ok-members-in-Set.ensures ∙ ap (λ xs. firsts (all_judged told s (trees (map expr_tree xs)))) c.as_slice.ensures.value in
    let whole : expr_tree c.args.e.now ≡ set c.in-Set.place (trees (map expr_tree c.in-Set.es.items)) = search (rules, the_lemmas) in
    of_whole told s whole (over_firsts (set_at c.in-Set.place) (all_judged told s (trees (map expr_tree c.in-Set.es.items))) members c.set_at.ensures)

pub judge-returns-in_ok-operands-in-Count : goal.judge-returns-in_ok-operands-in-Count
unfolding judged
judge-returns-in_ok-operands-in-Count g t c =
    let told = g.N.Names.told c.args.names.now in
    let s = c.args.scope in
    let operands : c.in_ok-operands-in-Count.operands ≡ firsts (all_judged told s (trees (map expr_tree c.in-Count.es.items))) =
    c.in_ok-operands-in-Count.ensures ∙ ap (λ xs. firsts (all_judged told s (trees (map expr_tree xs)))) c.as_slice-in-Count.ensures.value in
    let whole : expr_tree c.args.e.now ≡ count c.in-Count.place (trees (map expr_tree c.in-Count.es.items)) = search (rules, the_lemmas) in
    of_whole told s whole (over_firsts (count_at c.in-Count.place) (all_judged told s (trees (map expr_tree c.in-Count.es.items))) operands c.count_at.ensures)

pub judge-returns-in_ok-branches-in-Case : goal.judge-returns-in_ok-branches-in-Case
unfolding judged
judge-returns-in_ok-branches-in-Case g t c =
    let told = g.N.Names.told c.args.names.now in
    let s = c.args.scope in
    let branches : c.in_ok-branches-in-Case.branches ≡ firsts (arms_judged told s (arms (map branch_trees c.in-Case.branches.items))) =
    c.in_ok-branches-in-Case.ensures ∙ ap (λ xs. firsts (arms_judged told s (arms (map branch_trees xs)))) c.as_slice-in-Case.ensures.value in
    let whole : expr_tree c.args.e.now ≡ cases c.in-Case.place (arms (map branch_trees c.in-Case.branches.items)) = search (rules, the_lemmas) in
    of_whole told s whole (over_firsts (cases_at c.in-Case.place) (arms_judged told s (arms (map branch_trees c.in-Case.branches.items))) branches c.cases_at.ensures)

pub judge-returns-in_ok-other-in-If : goal.judge-returns-in_ok-other-in-If
unfolding judged
judge-returns-in_ok-other-in-If g t c =
    let told = g.N.Names.told c.args.names.now in
    let s = c.args.scope in
    let x = judged told s (expr_tree c.in-If.condition.value) in
    let y = judged told s (expr_tree c.in-If.value.value) in
    let z = judged told s (expr_tree c.in-If.other.value) in
    let condition = of_part told s c.deref.ensures c.in_ok-condition-in-If.ensures in
    let value = of_part told s c.deref-in-If.ensures c.in_ok-value-in-If.ensures in
    let other = of_part told s c.deref-in-If-2.ensures c.in_ok-other-in-If.ensures in
    let values = both_firsts pair y z value other c.pair.ensures in
    let parts = both_firsts pair x (both pair y z) condition values c.pair-in-If.ensures in
    let whole : expr_tree c.args.e.now ≡ choice c.in-If.place (expr_tree c.in-If.condition.value) (expr_tree c.in-If.value.value) (expr_tree c.in-If.other.value) = search (rules, the_lemmas) in
    of_whole told s whole (over_firsts (choice_at c.in-If.place) (both pair x (both pair y z)) parts c.choice_at.ensures)

pub judge-returns-in_ok-operand-in-One : goal.judge-returns-in_ok-operand-in-One
unfolding judged
judge-returns-in_ok-operand-in-One g t c =
    let told = g.N.Names.told c.args.names.now in
    let s = c.args.scope in
    let h = over_firsts (one_at c.in-One.place c.in-One.operator) (judged told s (expr_tree c.in-One.operand.value)) (of_part told s c.deref-in-One.ensures c.in_ok-operand-in-One.ensures) c.one_at.ensures in
    search (rules, the_lemmas)

pub judge-returns-in_ok-right-in-Two : goal.judge-returns-in_ok-right-in-Two
unfolding judged
judge-returns-in_ok-right-in-Two g t c =
    let told = g.N.Names.told c.args.names.now in
    let s = c.args.scope in
    let x = judged told s (expr_tree c.in-Two.left.value) in
    let y = judged told s (expr_tree c.in-Two.right.value) in
    let left = of_part told s c.deref-in-Two.ensures c.in_ok-left-in-Two.ensures in
    let right = of_part told s c.deref-in-Two-2.ensures c.in_ok-right-in-Two.ensures in
    let operands = both_firsts pair x y left right c.pair-in-Two.ensures in
    let whole : expr_tree c.args.e.now ≡ two c.in-Two.place c.in-Two.operator (expr_tree c.in-Two.left.value) (expr_tree c.in-Two.right.value) = search (rules, the_lemmas) in
    of_whole told s whole (over_firsts (two_at c.in-Two.place c.in-Two.operator) (both pair x y) operands c.two_at.ensures)

pub judge-returns-in_ok-operand-in-Select : goal.judge-returns-in_ok-operand-in-Select
unfolding judged
judge-returns-in_ok-operand-in-Select g t c =
    let told = g.N.Names.told c.args.names.now in
    let s = c.args.scope in
    let whole : expr_tree c.args.e.now ≡ select c.in-Select.place (expr_tree c.in-Select.operand.value) c.in-Select.high c.in-Select.low = search (rules, the_lemmas) in
    of_whole told s whole (over_firsts (select_at c.in-Select.place c.in-Select.high c.in-Select.low) (judged told s (expr_tree c.in-Select.operand.value)) (of_part told s c.deref-in-Select.ensures c.in_ok-operand-in-Select.ensures) c.select_at.ensures)

pub judge-returns-in_ok-operand-in-Next : goal.judge-returns-in_ok-operand-in-Next
unfolding judged
judge-returns-in_ok-operand-in-Next g t c =
    let told = g.N.Names.told c.args.names.now in
    let s = c.args.scope in
    let inner = within_next s in
    let operand : c.in_ok-operand-in-Next.operand ≡ firsts (judged told inner (expr_tree c.deref-in-Next.result.now)) =
    c.in_ok-operand-in-Next.ensures ∙ ap (λ i. firsts (judged told i (expr_tree c.deref-in-Next.result.now))) c.within_next.ensures in
    let whole : expr_tree c.args.e.now ≡ next c.in-Next.place (expr_tree c.in-Next.operand.value) = search (rules, the_lemmas) in
    of_whole told s whole (over_firsts (next_at s c.in-Next.place) (judged told inner (expr_tree c.in-Next.operand.value)) (of_part told inner c.deref-in-Next.ensures operand) c.next_at.ensures)

pub judge-returns-in_ok-operand-in-Widen : goal.judge-returns-in_ok-operand-in-Widen
unfolding judged
judge-returns-in_ok-operand-in-Widen g t c =
    let told = g.N.Names.told c.args.names.now in
    let s = c.args.scope in
    let whole : expr_tree c.args.e.now ≡ widen c.in-Widen.place c.in-Widen.resize (expr_tree c.in-Widen.operand.value) c.in-Widen.count = search (rules, the_lemmas) in
    of_whole told s whole (over_firsts (widen_at c.in-Widen.place c.in-Widen.resize c.in-Widen.count) (judged told s (expr_tree c.in-Widen.operand.value)) (of_part told s c.deref-in-Widen.ensures c.in_ok-operand-in-Widen.ensures) c.widen_at.ensures)

pub judge_all-loop-e-init : goal.judge_all-loop-e-init
unfolding all_judged
judge_all-loop-e-init g t c = ap Ok c.new.ensures

pub judge_all-loop-e-preserved : goal.judge_all-loop-e-preserved
judge_all-loop-e-preserved g t c =
    let told = g.N.Names.told c.args.names.now in
    let s = c.args.scope in
    let es = c.args.es.now in
    both_firsts behind (all_judged told s (trees (map expr_tree (take c.loop-e.e-index es)))) (judged told s (expr_tree c.e-item.result)) c.loop-e.invariant c.in_ok-judge.ensures c.in_ok-all.ensures
    ∙ ap firsts (all_step told s es c.loop-e.e-index c.e-item.result c.loop-e-test.true c.e-item.is)

pub judge_branch-returns : goal.judge_branch-returns
judge_branch-returns g t c =
    let told = g.N.Names.told c.args.names.now in
    let s = c.args.scope in
    both_firsts pair (judged told s (expr_tree c.args.branch.now.condition)) (judged told s (expr_tree c.args.branch.now.value)) c.in_ok-condition.ensures c.in_ok-value.ensures c.pair.ensures

pub judge_branches-loop-branch-init : goal.judge_branches-loop-branch-init
unfolding arms_judged
judge_branches-loop-branch-init g t c = ap (λ x. Ok (x, c.new-2.result)) c.new.ensures ∙ ap (λ y. Ok ([], y)) c.new-2.ensures

pub judge_branches-loop-branch-preserved : goal.judge_branches-loop-branch-preserved
judge_branches-loop-branch-preserved g t c =
    let told = g.N.Names.told c.args.names.now in
    let s = c.args.scope in
    let bs = c.args.branches.now in
    let b = c.branch-item.result in
    both_firsts arm_behind (arms_judged told s (arms (map branch_trees (take c.loop-branch.branch-index bs)))) (both pair (judged told s (expr_tree b.condition)) (judged told s (expr_tree b.value))) c.loop-branch.invariant c.in_ok-judge_branch.ensures c.in_ok-all.ensures
    ∙ ap firsts (arms_step told s bs c.loop-branch.branch-index b c.loop-branch-test.true c.branch-item.is)
