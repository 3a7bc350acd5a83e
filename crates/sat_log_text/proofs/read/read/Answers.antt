use Rattle.std.proofs.Common.{◌≡◌, ◌+◌, List, length, drop, map, refl, sym, subst, ◌∙◌, arith}
use Rattle.std.proofs.lemmas.Result.{err_from_is_err_and}
use Rattle.text_lines.specs.Lines.{lines_of}
use Rattle.sat_log_text.specs.Page.{words, page}
use Rattle.sat_log_text.specs.Reading.{read_page, read_rest}
use Rattle.sat_log.specs.declared.line.LogLine.{LogLine}
use Rattle.sat_log_text.proofs.ReadLemmas.{read_first, step_more, step_err, step_end, end_answer, err_as}
use Rattle.sat_log_text.proofs.read.read.Goals as goal

pub returns-then-not-is_header : goal.returns-then-not-is_header
returns-then-not-is_header c =
    read_first c.args.text.now c.piece_at-first.result.now _ c.piece_at-first.ensures.piece c.piece_at-first.ensures.len c.if-not-is_header.ensures

pub loop-at-init : goal.loop-at-init
loop-at-init c =
    let first = read_first c.args.text.now c.piece_at-first.result.now _ c.piece_at-first.ensures.piece c.piece_at-first.ensures.len c.if-not-is_header.ensures in
    subst (λ (log : List LogLine). read_page (page c.args.text.now) ≡ read_rest log (map words (lines_of (drop (length c.piece_at-first.result.now + 1) c.args.text.now)))) (sym c.in_ok-log.ensures) first

pub loop-at-preserved : goal.loop-at-preserved
loop-at-preserved c =
    step_more c.loop-at.log c.read_line.new.log c.args.text.now c.piece_at-line.result.now c.loop-at.at (c.loop-at.at + (length c.piece_at-line.result.now + 1)) _ c.loop-at.invariant (omega arith) c.piece_at-line.ensures.piece c.piece_at-line.ensures.len (omega arith) (sym c.end_count.ensures ∙ c.in_default.is) c.in_ok-read_line.ensures

pub returns-in_err-read_line : goal.returns-in_err-read_line
returns-in_err-read_line c =
    let p = err_from_is_err_and c.from_residual-in_err-read_line.result c.from_residual-in_err-read_line.ensures.1 in
    err_as _ _ _ _ p.1 p.2 (step_err c.loop-at.log c.read_line.new.log c.args.text.now c.piece_at-line.result.now c.loop-at.at (c.loop-at.at + (length c.piece_at-line.result.now + 1)) _ c.in_err-read_line.field-0.0 c.loop-at.invariant (omega arith) c.piece_at-line.ensures.piece c.piece_at-line.ensures.len (omega arith) (sym c.end_count.ensures ∙ c.in_default.is) c.in_err-read_line.ensures)

pub returns-in-Some : goal.returns-in-Some
returns-in-Some c =
    end_answer c.loop-at.log c.args.text.now (c.loop-at.at + (length c.piece_at-line.result.now + 1)) c.in-Some.count _ c.finish.result _ (step_end c.loop-at.log c.args.text.now c.piece_at-line.result.now c.loop-at.at (c.loop-at.at + (length c.piece_at-line.result.now + 1)) c.in-Some.count _ c.loop-at.invariant (omega arith) c.piece_at-line.ensures.piece c.piece_at-line.ensures.len (omega arith) (sym c.end_count.ensures ∙ c.in-Some.is)) refl c.finish.ensures.end c.finish.ensures.further
