use Rattle.std.proofs.Common.{◌+◌, length, drop, ap, sym, ◌∙◌, arith}
use Rattle.sat_log_text.specs.Answers.{words_after}
use Rattle.sat_log_text.specs.Reading.{items, number_of}
use Rattle.sat_log_text.proofs.PieceLemmas.{with_front, words_step, items_end, items_bad, items_more}
use Rattle.sat_log_text.proofs.read.ids.Goals as goal

pub returns-then-same_bytes : goal.returns-then-same_bytes
returns-then-same_bytes c =
    let word = c.piece_at-word.ensures in
    let next = words_step c.args.rest.now c.piece_at-word.result.now c.loop-at.at (c.loop-at.at + 1 + length c.piece_at-word.result.now) (omega arith) word.piece (omega (arith, word.len)) in
    (items_end number_of c.args.line _ _ _ _ _ c.loop-at.invariant.read next (sym c.if-same_bytes.ensures), omega (arith, word.within))

pub returns-in_default : goal.returns-in_default
returns-in_default c =
    let word = c.piece_at-word.ensures in
    let next = words_step c.args.rest.now c.piece_at-word.result.now c.loop-at.at (c.loop-at.at + 1 + length c.piece_at-word.result.now) (omega arith) word.piece (omega (arith, word.len)) in
    items_bad number_of c.args.line _ _ _ _ _ c.loop-at.invariant.read next (sym c.if-same_bytes.ensures) (sym c.number.ensures ∙ c.in_default.is)

pub loop-at-preserved : goal.loop-at-preserved
loop-at-preserved c =
    let word = c.piece_at-word.ensures in
    let next = words_step c.args.rest.now c.piece_at-word.result.now c.loop-at.at (c.loop-at.at + (1 + length c.piece_at-word.result.now)) (omega arith) word.piece (omega (arith, word.len)) in
    record {
      within = omega (arith, word.within);
      read = items_more number_of c.args.line _ _ _ _ _ _ c.loop-at.invariant.read next (sym c.if-same_bytes.ensures) (sym c.number.ensures ∙ c.in-Some.is) ∙ ap (λ ys. with_front ys (items number_of c.args.line (words_after (drop (c.loop-at.at + (1 + length c.piece_at-word.result.now)) c.args.rest.now)))) (sym c.in_ok-push.ensures.ok);
    }
