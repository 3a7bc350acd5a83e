use Rattle.std.proofs.Common.{◌+◌, length, drop, ap, sym, subst, ◌∙◌, arith}
use Rattle.std.specs.Prelude.{Some}
use Rattle.sat_log_text.specs.Answers.{words_after}
use Rattle.sat_log_text.specs.Reading.{line_of, after_letter}
use Rattle.sat_log_text.specs.Answers.{IsAnswer}
use Rattle.sat_log_text.proofs.ReadLemmas.{line_not_number, line_no_kind, line_kind}
use Rattle.sat_log_text.proofs.PieceLemmas.{one_word, two_first, words_first}
use Rattle.sat_log_text.proofs.read.clause.Goals as goal

pub returns-then-first-text : goal.returns-then-first-text
returns-then-first-text c =
    ap (line_of (c.args.id + 1) c.args.id) (one_word c.args.text.now c.piece_at-first.result.now c.piece_at-first.ensures.piece c.piece_at-first.ensures.len (omega arith))

pub returns-then-not-is_number : goal.returns-then-not-is_number
returns-then-not-is_number c =
    ap (line_of (c.args.id + 1) c.args.id) (words_first c.args.text.now c.piece_at-first.result.now c.piece_at-first.ensures.piece c.piece_at-first.ensures.len) ∙ line_not_number (c.args.id + 1) c.args.id c.piece_at-first.result.now _ (sym c.if-not-is_number.ensures)

pub returns-in_default : goal.returns-in_default
returns-in_default c =
    let two = two_first c.args.text.now c.piece_at-first.result.now c.piece_at-second.result.now c.piece_at-first.ensures.piece c.piece_at-first.ensures.len (omega (arith, c.piece_at-first.ensures.within)) c.piece_at-second.ensures.piece c.piece_at-second.ensures.len in
    ap (line_of (c.args.id + 1) c.args.id) two ∙ line_no_kind (c.args.id + 1) c.args.id c.piece_at-first.result.now c.piece_at-second.result.now (words_after (drop (length c.piece_at-first.result.now + 1 + length c.piece_at-second.result.now) c.args.text.now)) (sym c.kind.ensures ∙ c.in_default.is)

pub returns : goal.returns
returns c =
    let two = two_first c.args.text.now c.piece_at-first.result.now c.piece_at-second.result.now c.piece_at-first.ensures.piece c.piece_at-first.ensures.len (omega (arith, c.piece_at-first.ensures.within)) c.piece_at-second.ensures.piece c.piece_at-second.ensures.len in
    let behind = ap (line_of (c.args.id + 1) c.args.id) two ∙ line_kind (c.args.id + 1) c.args.id c.piece_at-first.result.now c.piece_at-second.result.now (words_after (drop (length c.piece_at-first.result.now + 1 + length c.piece_at-second.result.now) c.args.text.now)) c.in-Some.kind (sym c.if-not-is_number.ensures) (sym c.kind.ensures ∙ c.in-Some.is) in
    subst (IsAnswer c.clause_behind.result) (sym behind) (subst (λ t. IsAnswer c.clause_behind.result (after_letter (c.args.id + 1) (Some c.in-Some.kind) (words_after t))) c.split_at.ensures.back c.clause_behind.ensures)
