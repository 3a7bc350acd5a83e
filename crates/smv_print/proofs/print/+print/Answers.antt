use Rattle.smv_print.proofs.Inks.{arms_end, arms_step, stops_cons, stops_off, stops_operator, listed_end, listed_step, returned, prints_append, prints_around, prints_as, prints_cons, prints_none}
use Rattle.smv_print.proofs.print.+print.Goals as goal

pub put_enclosed-returns-in_err-put_mark : goal.put_enclosed-returns-in_err-put_mark
put_enclosed-returns-in_err-put_mark g t c = returned _ c.from_residual.result c.from_residual.ensures.1 (stops_cons _ c.in_err-put_mark.ensures)

pub put_enclosed-returns-in_err-put_bare : goal.put_enclosed-returns-in_err-put_bare
put_enclosed-returns-in_err-put_bare g t c = returned _ c.from_residual-in_err-put_bare.result c.from_residual-in_err-put_bare.ensures.1 (prints_cons c.in_ok-put_mark.ensures (stops_off _ c.in_err-put_bare.ensures))

pub put_enclosed-returns : goal.put_enclosed-returns
put_enclosed-returns g t c = prints_cons c.in_ok-put_mark.ensures (prints_append c.in_ok-put_bare.ensures (c.put_mark-2.ensures))

pub put_call-returns-in_err-put_mark : goal.put_call-returns-in_err-put_mark
put_call-returns-in_err-put_mark g t c = returned _ c.from_residual.result c.from_residual.ensures.1 (stops_cons _ c.in_err-put_mark.ensures)

pub put_call-returns : goal.put_call-returns
put_call-returns g t c = prints_cons c.in_ok-put_mark.ensures (c.put_enclosed.ensures)

pub put_widened-returns-in_err-put_mark : goal.put_widened-returns-in_err-put_mark
put_widened-returns-in_err-put_mark g t c = returned _ c.from_residual.result c.from_residual.ensures.1 (stops_cons _ c.in_err-put_mark.ensures)

pub put_widened-returns-in_err-put_mark-2 : goal.put_widened-returns-in_err-put_mark-2
put_widened-returns-in_err-put_mark-2 g t c = returned _ c.from_residual-in_err-put_mark-2.result c.from_residual-in_err-put_mark-2.ensures.1 (prints_cons c.in_ok-put_mark.ensures (stops_cons _ c.in_err-put_mark-2.ensures))

pub put_widened-returns-in_err-put_bare : goal.put_widened-returns-in_err-put_bare
put_widened-returns-in_err-put_bare g t c = returned _ c.from_residual-in_err-put_bare.result c.from_residual-in_err-put_bare.ensures.1 (prints_cons c.in_ok-put_mark.ensures (prints_cons c.in_ok-put_mark-2.ensures (stops_off _ c.in_err-put_bare.ensures)))

pub put_widened-returns : goal.put_widened-returns
put_widened-returns g t c = prints_cons c.in_ok-put_mark.ensures (prints_cons c.in_ok-put_mark-2.ensures (prints_append c.in_ok-put_bare.ensures (c.put_width.ensures)))

pub put_not-returns-in_err-put_mark : goal.put_not-returns-in_err-put_mark
put_not-returns-in_err-put_mark g t c = returned _ c.from_residual.result c.from_residual.ensures.1 (stops_cons _ c.in_err-put_mark.ensures)

pub put_not-returns : goal.put_not-returns
put_not-returns g t c = prints_cons c.in_ok-put_mark.ensures (c.put_part.ensures)

pub put_negated-returns-in_err-put_mark : goal.put_negated-returns-in_err-put_mark
put_negated-returns-in_err-put_mark g t c = returned _ c.from_residual.result c.from_residual.ensures.1 (stops_cons _ c.in_err-put_mark.ensures)

pub put_negated-returns-in_err-put_gap : goal.put_negated-returns-in_err-put_gap
put_negated-returns-in_err-put_gap g t c = returned _ c.from_residual-in_err-put_gap.result c.from_residual-in_err-put_gap.ensures.1 (prints_cons c.in_ok-put_mark.ensures (stops_off _ c.in_err-put_gap.ensures))

pub put_negated-returns : goal.put_negated-returns
put_negated-returns g t c = prints_cons c.in_ok-put_mark.ensures (prints_append c.in_ok-put_gap.ensures (c.put_part.ensures))

pub put_selected-returns-in_err-put_part : goal.put_selected-returns-in_err-put_part
put_selected-returns-in_err-put_part g t c = returned _ c.from_residual.result c.from_residual.ensures.1 (stops_off _ c.in_err-put_part.ensures)

pub put_selected-returns : goal.put_selected-returns
put_selected-returns g t c = prints_append c.in_ok-put_part.ensures (c.put_bits.ensures)

pub put_set-returns-in_err-put_mark : goal.put_set-returns-in_err-put_mark
put_set-returns-in_err-put_mark g t c = returned _ c.from_residual.result c.from_residual.ensures.1 (stops_cons _ c.in_err-put_mark.ensures)

pub put_set-returns-in_err-put_list : goal.put_set-returns-in_err-put_list
put_set-returns-in_err-put_list g t c = returned _ c.from_residual-in_err-put_list.result c.from_residual-in_err-put_list.ensures.1 (prints_cons c.in_ok-put_mark.ensures (stops_off _ c.in_err-put_list.ensures))

pub put_set-returns : goal.put_set-returns
put_set-returns g t c = prints_cons c.in_ok-put_mark.ensures (prints_append c.in_ok-put_list.ensures (c.put_mark-2.ensures))

pub put_count-returns-in_err-put_mark : goal.put_count-returns-in_err-put_mark
put_count-returns-in_err-put_mark g t c = returned _ c.from_residual.result c.from_residual.ensures.1 (stops_cons _ c.in_err-put_mark.ensures)

pub put_count-returns-in_err-put_mark-2 : goal.put_count-returns-in_err-put_mark-2
put_count-returns-in_err-put_mark-2 g t c = returned _ c.from_residual-in_err-put_mark-2.result c.from_residual-in_err-put_mark-2.ensures.1 (prints_cons c.in_ok-put_mark.ensures (stops_cons _ c.in_err-put_mark-2.ensures))

pub put_count-returns-in_err-put_list : goal.put_count-returns-in_err-put_list
put_count-returns-in_err-put_list g t c = returned _ c.from_residual-in_err-put_list.result c.from_residual-in_err-put_list.ensures.1 (prints_cons c.in_ok-put_mark.ensures (prints_cons c.in_ok-put_mark-2.ensures (stops_off _ c.in_err-put_list.ensures)))

pub put_count-returns : goal.put_count-returns
put_count-returns g t c = prints_cons c.in_ok-put_mark.ensures (prints_cons c.in_ok-put_mark-2.ensures (prints_append c.in_ok-put_list.ensures (c.put_mark-3.ensures)))

pub put_case-returns-in_err-put_mark : goal.put_case-returns-in_err-put_mark
put_case-returns-in_err-put_mark g t c = returned _ c.from_residual.result c.from_residual.ensures.1 (stops_cons _ c.in_err-put_mark.ensures)

pub put_case-returns-in_err-put_blank : goal.put_case-returns-in_err-put_blank
put_case-returns-in_err-put_blank g t c = returned _ c.from_residual-in_err-put_blank.result c.from_residual-in_err-put_blank.ensures.1 (prints_cons c.in_ok-put_mark.ensures (stops_cons _ c.in_err-put_blank.ensures))

pub put_case-returns-in_err-put_arms : goal.put_case-returns-in_err-put_arms
put_case-returns-in_err-put_arms g t c = returned _ c.from_residual-in_err-put_arms.result c.from_residual-in_err-put_arms.ensures.1 (prints_cons c.in_ok-put_mark.ensures (prints_cons c.in_ok-put_blank.ensures (stops_off _ c.in_err-put_arms.ensures)))

pub put_case-returns : goal.put_case-returns
put_case-returns g t c = prints_cons c.in_ok-put_mark.ensures (prints_cons c.in_ok-put_blank.ensures (prints_append c.in_ok-put_arms.ensures (c.put_mark-2.ensures)))

pub put_arms-loop-arm-init : goal.put_arms-loop-arm-init
put_arms-loop-arm-init g t c = λ r z w. w

pub put_arms-loop-arm-preserved : goal.put_arms-loop-arm-preserved
put_arms-loop-arm-preserved g t c = λ r z w. c.loop-arm.invariant r z (prints_as (arms_step c.args.items.now c.loop-arm.arm-index c.arm-item.result c.loop-arm-test.true c.arm-item.is) (prints_append c.in_ok-put_arm.ensures w))

pub put_arms-returns-in_err-put_arm : goal.put_arms-returns-in_err-put_arm
put_arms-returns-in_err-put_arm g t c = returned _ c.from_residual.result c.from_residual.ensures.1 (c.loop-arm.invariant _ _ (prints_as (arms_step c.args.items.now c.loop-arm.arm-index c.arm-item.result c.loop-arm-test.true c.arm-item.is) (stops_off _ c.in_err-put_arm.ensures)))

pub put_arms-returns : goal.put_arms-returns
put_arms-returns g t c = c.loop-arm.invariant _ _ (prints_as (arms_end c.args.items.now c.loop-arm.arm-index c.loop-arm-test.false) (prints_none _ _))

pub put_two-returns-in_err-put_left : goal.put_two-returns-in_err-put_left
put_two-returns-in_err-put_left g t c = returned _ c.from_residual.result c.from_residual.ensures.1 (stops_off _ c.in_err-put_left.ensures)

pub put_two-returns-in_err-put_operator : goal.put_two-returns-in_err-put_operator
put_two-returns-in_err-put_operator g t c = returned _ c.from_residual-in_err-put_operator.result c.from_residual-in_err-put_operator.ensures.1 (stops_operator _ c.in_ok-put_left.ensures c.in_err-put_operator.ensures)

pub put_two-returns : goal.put_two-returns
put_two-returns g t c = prints_around c.in_ok-put_left.ensures c.in_ok-put_operator.ensures c.put_right.ensures

pub put_if-returns-in_err-put_left : goal.put_if-returns-in_err-put_left
put_if-returns-in_err-put_left g t c = returned _ c.from_residual.result c.from_residual.ensures.1 (stops_off _ c.in_err-put_left.ensures)

pub put_if-returns-in_err-put_operator : goal.put_if-returns-in_err-put_operator
put_if-returns-in_err-put_operator g t c = returned _ c.from_residual-in_err-put_operator.result c.from_residual-in_err-put_operator.ensures.1 (stops_operator _ c.in_ok-put_left.ensures c.in_err-put_operator.ensures)

pub put_if-returns-in_err-put_then : goal.put_if-returns-in_err-put_then
put_if-returns-in_err-put_then g t c = returned _ c.from_residual-in_err-put_then.result c.from_residual-in_err-put_then.ensures.1 (prints_around c.in_ok-put_left.ensures c.in_ok-put_operator.ensures (stops_off _ c.in_err-put_then.ensures))

pub put_if-returns-in_err-put_operator-2 : goal.put_if-returns-in_err-put_operator-2
put_if-returns-in_err-put_operator-2 g t c = returned _ c.from_residual-in_err-put_operator-2.result c.from_residual-in_err-put_operator-2.ensures.1 (prints_around c.in_ok-put_left.ensures c.in_ok-put_operator.ensures (stops_operator _ c.in_ok-put_then.ensures c.in_err-put_operator-2.ensures))

pub put_if-returns : goal.put_if-returns
put_if-returns g t c = prints_around c.in_ok-put_left.ensures c.in_ok-put_operator.ensures (prints_around c.in_ok-put_then.ensures c.in_ok-put_operator-2.ensures c.put_right.ensures)

pub put_arm-returns-in_err-put_bare : goal.put_arm-returns-in_err-put_bare
put_arm-returns-in_err-put_bare g t c = returned _ c.from_residual.result c.from_residual.ensures.1 (stops_off _ c.in_err-put_bare.ensures)

pub put_arm-returns-in_err-put_operator : goal.put_arm-returns-in_err-put_operator
put_arm-returns-in_err-put_operator g t c = returned _ c.from_residual-in_err-put_operator.result c.from_residual-in_err-put_operator.ensures.1 (stops_operator _ c.in_ok-put_bare.ensures c.in_err-put_operator.ensures)

pub put_arm-returns-in_err-put_bare-2 : goal.put_arm-returns-in_err-put_bare-2
put_arm-returns-in_err-put_bare-2 g t c = returned _ c.from_residual-in_err-put_bare-2.result c.from_residual-in_err-put_bare-2.ensures.1 (prints_around c.in_ok-put_bare.ensures c.in_ok-put_operator.ensures (stops_off _ c.in_err-put_bare-2.ensures))

pub put_arm-returns-in_err-put_mark : goal.put_arm-returns-in_err-put_mark
put_arm-returns-in_err-put_mark g t c = returned _ c.from_residual-in_err-put_mark.result c.from_residual-in_err-put_mark.ensures.1 (prints_around c.in_ok-put_bare.ensures c.in_ok-put_operator.ensures (prints_append c.in_ok-put_bare-2.ensures (stops_cons _ c.in_err-put_mark.ensures)))

pub put_arm-returns : goal.put_arm-returns
put_arm-returns g t c = prints_around c.in_ok-put_bare.ensures c.in_ok-put_operator.ensures (prints_append c.in_ok-put_bare-2.ensures (prints_cons c.in_ok-put_mark.ensures c.put_blank.ensures))

pub put_item-returns-in_err-put_separator : goal.put_item-returns-in_err-put_separator
put_item-returns-in_err-put_separator g t c = returned _ c.from_residual.result c.from_residual.ensures.1 (stops_off _ c.in_err-put_separator.ensures)

pub put_item-returns : goal.put_item-returns
put_item-returns g t c = prints_append c.in_ok-put_separator.ensures c.put_bare.ensures

pub put_list-loop-i-init : goal.put_list-loop-i-init
put_list-loop-i-init g t c = λ r z w. w

pub put_list-loop-i-preserved : goal.put_list-loop-i-preserved
put_list-loop-i-preserved g t c = λ r z w. c.loop-i.invariant r z (prints_as (listed_step c.args.es.now c.loop-i.i c.index-es-i.result c.loop-i-test.true c.index-es-i.is) (prints_append c.in_ok-put_item.ensures w))

pub put_list-returns-in_err-put_item : goal.put_list-returns-in_err-put_item
put_list-returns-in_err-put_item g t c = returned _ c.from_residual.result c.from_residual.ensures.1 (c.loop-i.invariant _ _ (prints_as (listed_step c.args.es.now c.loop-i.i c.index-es-i.result c.loop-i-test.true c.index-es-i.is) (stops_off _ c.in_err-put_item.ensures)))

pub put_list-returns : goal.put_list-returns
put_list-returns g t c = c.loop-i.invariant _ _ (prints_as (listed_end c.args.es.now c.loop-i.i c.loop-i-test.false) (prints_none _ _))
