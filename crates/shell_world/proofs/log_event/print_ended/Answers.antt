use Rattle.outside.proofs.WriteLemmas.{writes_returned, writes_stopped, writes_then}
use Rattle.shell_world.proofs.log_event.print_ended.Goals as goal

pub returns-in_err-put_number : goal.returns-in_err-put_number
returns-in_err-put_number g c =
    writes_returned _ c.from_residual.result c.from_residual.ensures.1 (writes_stopped _ c.in_err-put_number.ensures)

pub returns : goal.returns
returns g c = writes_then c.in_ok-put_number.ensures c.put_all.ensures
