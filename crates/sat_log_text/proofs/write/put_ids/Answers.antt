use Rattle.std.proofs.Common.{◌∷◌, decimal, get_or}
use Rattle.std.proofs.lemmas.List.{append-nil}
use Rattle.outside.proofs.WriteLemmas.{writes_item, writes_item_stopped, writes_items, writes_none, writes_returned}
use Rattle.sat_log_text.proofs.write.put_ids.Goals as goal

pub loop-id-init : goal.loop-id-init
loop-id-init g c = writes_none _ _

pub loop-id-preserved : goal.loop-id-preserved
loop-id-preserved g c =
    let w = rw (append-nil (decimal (get_or c.args.ids.now c.loop-id.id-index 0))) at c.in_ok-put_numbered.ensures in
    writes_item (λ n. 32 ∷ decimal n) c.args.ids.now c.loop-id.id-index 0 c.loop-id-test.true c.loop-id.invariant w

pub returns-in_err-put_numbered : goal.returns-in_err-put_numbered
returns-in_err-put_numbered g c =
    let w = rw (append-nil (decimal (get_or c.args.ids.now c.loop-id.id-index 0))) at c.in_err-put_numbered.ensures in
    writes_returned _ c.from_residual.result c.from_residual.ensures.1 (writes_item_stopped (λ n. 32 ∷ decimal n) c.args.ids.now c.loop-id.id-index 0 c.loop-id-test.true c.loop-id.invariant w)

pub returns : goal.returns
returns g c = writes_items (λ n. 32 ∷ decimal n) c.args.ids.now c.loop-id.id-index c.loop-id-test.false c.loop-id.invariant
