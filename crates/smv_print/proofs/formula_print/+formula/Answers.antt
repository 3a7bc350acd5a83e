use Rattle.smv_print.proofs.Inks.{stops_cons, stops_off, stops_operator, returned, prints_append, prints_around, prints_cons}
use Rattle.smv_print.proofs.formula_print.+formula.Goals as goal

pub put_enclosed-returns-in_err-put_mark : goal.put_enclosed-returns-in_err-put_mark
put_enclosed-returns-in_err-put_mark g t c = returned _ c.from_residual.result c.from_residual.ensures.1 (stops_cons _ c.in_err-put_mark.ensures)

pub put_enclosed-returns-in_err-put_formula : goal.put_enclosed-returns-in_err-put_formula
put_enclosed-returns-in_err-put_formula g t c = returned _ c.from_residual-in_err-put_formula.result c.from_residual-in_err-put_formula.ensures.1 (prints_cons c.in_ok-put_mark.ensures (stops_off _ c.in_err-put_formula.ensures))

pub put_enclosed-returns : goal.put_enclosed-returns
put_enclosed-returns g t c = prints_cons c.in_ok-put_mark.ensures (prints_append c.in_ok-put_formula.ensures (c.put_mark-2.ensures))

pub put_not-returns-in_err-put_mark : goal.put_not-returns-in_err-put_mark
put_not-returns-in_err-put_mark g t c = returned _ c.from_residual.result c.from_residual.ensures.1 (stops_cons _ c.in_err-put_mark.ensures)

pub put_not-returns : goal.put_not-returns
put_not-returns g t c = prints_cons c.in_ok-put_mark.ensures (c.put_operand.ensures)

pub put_temporal-returns-in_err-put_mark : goal.put_temporal-returns-in_err-put_mark
put_temporal-returns-in_err-put_mark g t c = returned _ c.from_residual.result c.from_residual.ensures.1 (stops_cons _ c.in_err-put_mark.ensures)

pub put_temporal-returns-in_err-put_blank : goal.put_temporal-returns-in_err-put_blank
put_temporal-returns-in_err-put_blank g t c = returned _ c.from_residual-in_err-put_blank.result c.from_residual-in_err-put_blank.ensures.1 (prints_cons c.in_ok-put_mark.ensures (stops_cons _ c.in_err-put_blank.ensures))

pub put_temporal-returns : goal.put_temporal-returns
put_temporal-returns g t c = prints_cons c.in_ok-put_mark.ensures (prints_cons c.in_ok-put_blank.ensures (c.put_operand.ensures))

pub put_two-returns-in_err-put_left : goal.put_two-returns-in_err-put_left
put_two-returns-in_err-put_left g t c = returned _ c.from_residual.result c.from_residual.ensures.1 (stops_off _ c.in_err-put_left.ensures)

pub put_two-returns-in_err-put_operator : goal.put_two-returns-in_err-put_operator
put_two-returns-in_err-put_operator g t c = returned _ c.from_residual-in_err-put_operator.result c.from_residual-in_err-put_operator.ensures.1 (stops_operator _ c.in_ok-put_left.ensures c.in_err-put_operator.ensures)

pub put_two-returns : goal.put_two-returns
put_two-returns g t c = prints_around c.in_ok-put_left.ensures c.in_ok-put_operator.ensures c.put_right.ensures
