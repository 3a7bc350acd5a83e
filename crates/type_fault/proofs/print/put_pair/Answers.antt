use Rattle.outside.proofs.WriteLemmas.{writes_returned, writes_stopped, writes_then}
use Rattle.type_fault.proofs.print.put_pair.Goals as goal

pub returns-in_err-put_kind : goal.returns-in_err-put_kind
returns-in_err-put_kind g c = writes_returned _ c.from_residual.result c.from_residual.ensures.1 (writes_stopped _ c.in_err-put_kind.ensures)

pub returns : goal.returns
returns g c = writes_then c.in_ok-put_kind.ensures c.put_right.ensures
