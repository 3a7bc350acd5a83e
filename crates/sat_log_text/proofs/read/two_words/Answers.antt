use Rattle.std.proofs.Common.{◌+◌, ◌∷◌, length, ap, sym, ◌∙◌, arith}
use Rattle.sat_log_text.specs.Answers.{words_after}
use Rattle.sat_log_text.proofs.PieceLemmas.{one_word, two_first, words_there, drop_end}
use Rattle.sat_log_text.proofs.read.two_words.Goals as goal

pub returns-then-first-text-clause-other : goal.returns-then-first-text-clause-other
returns-then-first-text-clause-other c =
    let one = one_word c.args.text.now c.piece_at-first.result.now c.piece_at-first.ensures.piece c.piece_at-first.ensures.len (omega arith) in
    λ a b e. (let both = sym one ∙ e in cc)

pub returns-then-first-second-clause-other : goal.returns-then-first-second-clause-other
returns-then-first-second-clause-other c =
    let two = two_first c.args.text.now c.piece_at-first.result.now c.piece_at-second.result.now c.piece_at-first.ensures.piece c.piece_at-first.ensures.len (omega (arith, c.piece_at-first.ensures.within)) c.piece_at-second.ensures.piece c.piece_at-second.ensures.len in
    let more = words_there c.args.text.now (length c.piece_at-first.result.now + 1 + length c.piece_at-second.result.now) (omega arith) in
    λ a b e. (let both = sym two ∙ e in let behind = more.2 in cc)

pub returns-clause-two : goal.returns-clause-two
returns-clause-two c =
    let two = two_first c.args.text.now c.piece_at-first.result.now c.piece_at-second.result.now c.piece_at-first.ensures.piece c.piece_at-first.ensures.len (omega (arith, c.piece_at-first.ensures.within)) c.piece_at-second.ensures.piece c.piece_at-second.ensures.len in
    two ∙ ap (λ t. c.piece_at-first.result.now ∷ c.piece_at-second.result.now ∷ words_after t) (drop_end c.args.text.now _ (omega arith))
