use Rattle.outside.proofs.WriteLemmas.{writes_returned, writes_stopped, writes_then}
use Rattle.type_fault.proofs.print.put_next_path.Goals as goal

pub returns-in_err-put_all : goal.returns-in_err-put_all
returns-in_err-put_all g c = writes_returned _ c.from_residual.result c.from_residual.ensures.1 (writes_stopped _ c.in_err-put_all.ensures)

pub returns : goal.returns
returns g c = writes_then c.in_ok-put_all.ensures c.put_path.ensures
