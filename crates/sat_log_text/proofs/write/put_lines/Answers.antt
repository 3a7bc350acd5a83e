use Rattle.std.proofs.Common.{ap, sym}
use Rattle.std.specs.List.{flat_map}
use Rattle.std.proofs.lemmas.List.{take_all}
use Rattle.outside.proofs.WriteLemmas.{writes_as, writes_none, writes_returned, writes_then}
use Rattle.sat_log_text.specs.LogText.{line_text, clause_lines}
use Rattle.sat_log_text.proofs.TextLemmas.{lines_more, lines_stopped}
use Rattle.sat_log_text.proofs.write.put_lines.Goals as goal

pub loop-i-init : goal.loop-i-init
loop-i-init g c = writes_none _ _

pub loop-i-preserved : goal.loop-i-preserved
loop-i-preserved g c =
    writes_as (sym (lines_more c.args.lines.now c.loop-i.i c.index-lines-i.result c.loop-i-test.true c.index-lines-i.is)) (writes_then c.loop-i.invariant c.in_ok-put_line.ensures)

pub returns-in_err-put_line : goal.returns-in_err-put_line
returns-in_err-put_line g c =
    writes_returned _ c.from_residual.result c.from_residual.ensures.1 (lines_stopped c.args.lines.now c.loop-i.i c.index-lines-i.result c.loop-i-test.true c.index-lines-i.is c.loop-i.invariant c.in_err-put_line.ensures)

pub returns : goal.returns
returns g c = writes_as (ap (λ log. flat_map line_text (clause_lines 1 log)) (take_all c.loop-i.i c.args.lines.now c.loop-i-test.false)) c.loop-i.invariant
