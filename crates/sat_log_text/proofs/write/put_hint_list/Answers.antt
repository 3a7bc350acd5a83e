use Rattle.std.proofs.Common.{sym}
use Rattle.outside.proofs.WriteLemmas.{writes_as, writes_returned, writes_stopped, writes_then}
use Rattle.sat_log_text.proofs.TextLemmas.{hint_pieces}
use Rattle.sat_log_text.proofs.write.put_hint_list.Goals as goal

pub returns-in_err-put_ids : goal.returns-in_err-put_ids
returns-in_err-put_ids g c =
    writes_returned _ c.from_residual.result c.from_residual.ensures.1 (writes_as (sym (hint_pieces c.args.hints.now)) (writes_stopped _ c.in_err-put_ids.ensures))

pub returns : goal.returns
returns g c = writes_as (sym (hint_pieces c.args.hints.now)) (writes_then c.in_ok-put_ids.ensures c.put_all.ensures)
