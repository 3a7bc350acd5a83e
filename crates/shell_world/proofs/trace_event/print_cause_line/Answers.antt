use Rattle.outside.proofs.WriteLemmas.{writes_returned, writes_stopped, writes_then}
use Rattle.shell_world.proofs.trace_event.print_cause_line.Goals as goal

pub returns-in_err-print_cause : goal.returns-in_err-print_cause
returns-in_err-print_cause g c =
    writes_returned _ c.from_residual.result c.from_residual.ensures.1 (writes_stopped _ c.in_err-print_cause.ensures)

pub returns : goal.returns
returns g c = writes_then c.in_ok-print_cause.ensures c.put_all.ensures
