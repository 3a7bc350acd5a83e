use Rattle.std.proofs.Common.{ap}
use Rattle.outside.proofs.WriteLemmas.{writes_as, writes_returned, writes_stopped, writes_then}
use Rattle.smv_grammar.specs.Faults.{placed}
use Rattle.smv_grammar.proofs.fault.ParseFault.print_text.Goals as goal

pub returns-in_err-put_place : goal.returns-in_err-put_place
returns-in_err-put_place g c =
    writes_returned _ c.from_residual.result c.from_residual.ensures.1 (writes_stopped _ (writes_as (ap placed c.place.ensures) c.in_err-put_place.ensures))

pub returns : goal.returns
returns g c = writes_then (writes_as (ap placed c.place.ensures) c.in_ok-put_place.ensures) c.put_said.ensures
