use Rattle.std.proofs.Common.{◌-◌, length, refl}
use Rattle.outside.proofs.WriteLemmas.{writes_as, writes_returned, writes_stopped, writes_then}
use Rattle.type_fault.proofs.Between.{between_taken}
use Rattle.type_fault.proofs.print.put_between.Goals as goal

pub returns-in_err-put_all-in-len1-up : goal.returns-in_err-put_all-in-len1-up
returns-in_err-put_all-in-len1-up g c =
    let first = between_taken c.args.mark.now c.args.names.now c.first-item.result (length c.args.names.now - 1) c.in-len1-up.len_at_least refl c.first-item.is in
    writes_returned _ c.from_residual.result c.from_residual.ensures.1 (writes_as first (writes_stopped _ (writes_as c.as_slice.ensures.bytes c.in_err-put_all-in-len1-up.ensures)))

pub returns-in_ok-put_all-in-len1-up : goal.returns-in_ok-put_all-in-len1-up
returns-in_ok-put_all-in-len1-up g c =
    let first = between_taken c.args.mark.now c.args.names.now c.first-item.result (length c.args.names.now - 1) c.in-len1-up.len_at_least refl c.first-item.is in
    writes_as first (writes_then (writes_as c.as_slice.ensures.bytes c.in_ok-put_all-in-len1-up.ensures) c.put_behind.ensures)
