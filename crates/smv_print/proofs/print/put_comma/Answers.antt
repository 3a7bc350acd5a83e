use Rattle.smv_print.proofs.Inks.{stops_cons, returned, prints_cons}
use Rattle.smv_print.proofs.print.put_comma.Goals as goal

pub returns-in_err-put_mark : goal.returns-in_err-put_mark
returns-in_err-put_mark g c = returned _ c.from_residual.result c.from_residual.ensures.1 (stops_cons _ c.in_err-put_mark.ensures)

pub returns : goal.returns
returns g c = prints_cons c.in_ok-put_mark.ensures c.put_blank.ensures
