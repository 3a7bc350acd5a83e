use Rattle.smv_meaning.proofs.Orders.{ordered_is_settled, settled_has_no_cycle}
use Rattle.smv_meaning.proofs.FirstCyclesOne.{ordered_modules}
use Rattle.smv_meaning.proofs.cycles.orders_exclude_cycles.Goals as goal

pub returns : goal.returns
returns c = record { definitions = λ program order o. settled_has_no_cycle program (ordered_is_settled program order o); modules = ordered_modules }
