use Rattle.outside.proofs.WriteLemmas.{writes_returned, writes_stopped, writes_then}
use Rattle.smv_grammar.proofs.fault.put_place.Goals as goal

pub returns-in_err-put_numbered : goal.returns-in_err-put_numbered
returns-in_err-put_numbered g c =
    rw c.in-Some.is (writes_returned _ c.from_residual.result c.from_residual.ensures.1 (writes_stopped _ c.in_err-put_numbered.ensures))

pub returns : goal.returns
returns g c = rw c.in-Some.is (writes_then c.in_ok-put_numbered.ensures c.put_numbered-2.ensures)
