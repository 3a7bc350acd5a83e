use Rattle.std.proofs.Common.{◌++◌, decimal, length, sym}
use Rattle.std.specs.Prelude.{codes}
use Rattle.std.specs.List.{flat_map}
use Rattle.outside.proofs.WriteLemmas.{writes_as, writes_returned, writes_stopped, writes_then}
use Rattle.sat_log_text.specs.LogText.{line_text, clause_lines}
use Rattle.sat_log_text.proofs.TextLemmas.{text_pieces}
use Rattle.sat_log_text.proofs.write.put_log.Goals as goal

pub returns-in_err-put_all : goal.returns-in_err-put_all
returns-in_err-put_all g c =
    let lines = flat_map line_text (clause_lines 1 c.args.lines.now) in
    let last = codes "end " ++ decimal (length c.args.lines.now) ++ codes "\n" in
    writes_returned _ c.from_residual.result c.from_residual.ensures.1 (writes_as (sym (text_pieces c.args.lines.now)) (writes_stopped last (writes_stopped lines c.in_err-put_all.ensures)))

pub returns-in_err-put_lines : goal.returns-in_err-put_lines
returns-in_err-put_lines g c =
    let last = codes "end " ++ decimal (length c.args.lines.now) ++ codes "\n" in
    writes_returned _ c.from_residual-in_err-put_lines.result c.from_residual-in_err-put_lines.ensures.1 (writes_as (sym (text_pieces c.args.lines.now)) (writes_stopped last (writes_then c.in_ok-put_all.ensures c.in_err-put_lines.ensures)))

pub returns : goal.returns
returns g c = writes_as (sym (text_pieces c.args.lines.now)) (writes_then (writes_then c.in_ok-put_all.ensures c.in_ok-put_lines.ensures) c.put_numbered.ensures)
