use Rattle.outside.proofs.WriteLemmas.{writes_item, writes_item_stopped, writes_items, writes_none, writes_returned}
use Rattle.outside.proofs.sink.put_parts.Goals as goal

pub loop-part-init : goal.loop-part-init
loop-part-init g c = writes_none _ _

pub loop-part-preserved : goal.loop-part-preserved
loop-part-preserved g c =
    writes_item (λ p. p.now) c.args.parts.now c.loop-part.part-index _ c.loop-part-test.true c.loop-part.invariant c.in_ok-put_all.ensures

pub returns-in_err-put_all : goal.returns-in_err-put_all
returns-in_err-put_all g c =
    writes_returned _ c.from_residual.result c.from_residual.ensures.1 (writes_item_stopped (λ p. p.now) c.args.parts.now c.loop-part.part-index _ c.loop-part-test.true c.loop-part.invariant c.in_err-put_all.ensures)

pub returns : goal.returns
returns g c = writes_items (λ p. p.now) c.args.parts.now c.loop-part.part-index c.loop-part-test.false c.loop-part.invariant
