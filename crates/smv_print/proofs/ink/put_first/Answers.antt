use Rattle.smv_print.proofs.Inks.{stops_cons, returned, prints_cons}
use Rattle.smv_print.proofs.ink.put_first.Goals as goal

pub returns-in_err-put_head : goal.returns-in_err-put_head
returns-in_err-put_head g c = returned _ c.from_residual.result c.from_residual.ensures.1 (stops_cons _ c.in_err-put_head.ensures)

pub returns : goal.returns
returns g c = prints_cons c.in_ok-put_head.ensures (c.put_dotted.ensures)
