use Rattle.smv_print.proofs.Inks.{stops_cons, stops_off, returned, prints_append, prints_cons}
use Rattle.smv_print.proofs.print.put_constant.Goals as goal

pub returns-in_err-put_mark : goal.returns-in_err-put_mark
returns-in_err-put_mark g c = returned _ c.from_residual.result c.from_residual.ensures.1 (stops_cons _ c.in_err-put_mark.ensures)

pub returns-in_err-put_mark-2 : goal.returns-in_err-put_mark-2
returns-in_err-put_mark-2 g c = returned _ c.from_residual-in_err-put_mark-2.result c.from_residual-in_err-put_mark-2.ensures.1 (prints_cons c.in_ok-put_mark.ensures (stops_cons _ c.in_err-put_mark-2.ensures))

pub returns-in_err-put_integer : goal.returns-in_err-put_integer
returns-in_err-put_integer g c = returned _ c.from_residual-in_err-put_integer.result c.from_residual-in_err-put_integer.ensures.1 (prints_cons c.in_ok-put_mark.ensures (prints_cons c.in_ok-put_mark-2.ensures (stops_off _ c.in_err-put_integer.ensures)))

pub returns : goal.returns
returns g c = prints_cons c.in_ok-put_mark.ensures (prints_cons c.in_ok-put_mark-2.ensures (prints_append c.in_ok-put_integer.ensures (c.put_width.ensures)))
