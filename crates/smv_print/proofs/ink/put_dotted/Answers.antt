use Rattle.smv_print.proofs.Inks.{stops_off, dotted_end, dotted_step, returned, prints_append, prints_as, prints_none}
use Rattle.smv_print.proofs.ink.put_dotted.Goals as goal

pub loop-name-init : goal.loop-name-init
loop-name-init g c = λ r z w. w

pub loop-name-preserved : goal.loop-name-preserved
loop-name-preserved g c = λ r z w. c.loop-name.invariant r z (prints_as (dotted_step c.args.names.now c.loop-name.name-index c.name-item.result c.loop-name-test.true c.name-item.is) (prints_append c.in_ok-put_member.ensures w))

pub returns-in_err-put_member : goal.returns-in_err-put_member
returns-in_err-put_member g c = returned _ c.from_residual.result c.from_residual.ensures.1 (c.loop-name.invariant _ _ (prints_as (dotted_step c.args.names.now c.loop-name.name-index c.name-item.result c.loop-name-test.true c.name-item.is) (stops_off _ c.in_err-put_member.ensures)))

pub returns : goal.returns
returns g c = c.loop-name.invariant _ _ (prints_as (dotted_end c.args.names.now c.loop-name.name-index c.loop-name-test.false) (prints_none _ _))
