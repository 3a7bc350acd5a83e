use Rattle.std.proofs.Common.{◌++◌, List, ℕ, ap}
use Rattle.outside.proofs.WriteLemmas.{writes_as, writes_item, writes_item_stopped, writes_items, writes_none, writes_returned}
use Rattle.type_fault.proofs.print.put_behind.Goals as goal

pub loop-name-init : goal.loop-name-init
loop-name-init g c = writes_none _ _

pub loop-name-preserved : goal.loop-name-preserved
loop-name-preserved g c =
    writes_item (λ (n : List ℕ). c.args.mark.now ++ n) c.args.names.now c.loop-name.name-index c.name-item.result c.loop-name-test.true c.loop-name.invariant (writes_as (ap (λ (n : List ℕ). c.args.mark.now ++ n) c.name-item.is) c.in_ok-put_marked.ensures)

pub returns-in_err-put_marked : goal.returns-in_err-put_marked
returns-in_err-put_marked g c =
    writes_returned _ c.from_residual.result c.from_residual.ensures.1 (writes_item_stopped (λ (n : List ℕ). c.args.mark.now ++ n) c.args.names.now c.loop-name.name-index c.name-item.result c.loop-name-test.true c.loop-name.invariant (writes_as (ap (λ (n : List ℕ). c.args.mark.now ++ n) c.name-item.is) c.in_err-put_marked.ensures))

pub returns : goal.returns
returns g c = writes_items (λ (n : List ℕ). c.args.mark.now ++ n) c.args.names.now c.loop-name.name-index c.loop-name-test.false c.loop-name.invariant
