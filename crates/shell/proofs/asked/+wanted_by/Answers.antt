use Rattle.std.proofs.Common.{arith, drop, ap, sym, ◌∙◌}
use Rattle.std.specs.Prelude.{Some}
use Rattle.shell.specs.AskedViews.{asked_of}
use Rattle.shell.specs.Sessions.{asked_by}
use Rattle.shell.proofs.Asking.{asked_script, asked_word}
use Rattle.shell.proofs.asked.+wanted_by.Goals as goal

pub returns-in-Some : goal.returns-in-Some
returns-in-Some t c =
    c.wanted_by.ensures ∙ (ap (λ ws. asked_by (Some (asked_of c.in-Some.wanted)) ws) c.behind_two.ensures ∙ (ap (λ a. asked_by a (drop 2 c.args.words.now)) c.in-Some.ensures ∙ sym (asked_script (asked_of c.args.wanted) c.word-item-2.result c.next-item.result c.args.words.now c.in-len2-up.len_at_least c.word-item-2.is c.next-item.is (grind arith))))

pub returns-in-None : goal.returns-in-None
returns-in-None t c =
    ap (λ a. asked_by a (drop 2 c.args.words.now)) c.in-None.ensures ∙ sym (asked_script (asked_of c.args.wanted) c.word-item-2.result c.next-item.result c.args.words.now c.in-len2-up.len_at_least c.word-item-2.is c.next-item.is (grind arith))

pub returns-in-Some-with_word : goal.returns-in-Some-with_word
returns-in-Some-with_word t c =
    c.wanted_by-in-Some-with_word.ensures ∙ (ap (λ ws. asked_by (Some (asked_of c.in-Some-with_word.wanted)) ws) c.split_at.ensures.back ∙ (ap (λ a. asked_by a (drop 1 c.args.words.now)) c.in-Some-with_word.ensures ∙ sym (asked_word (asked_of c.args.wanted) c.word-item-2.result c.args.words.now c.in-len2-up.len_at_least c.word-item-2.is (grind arith))))

pub returns-in-None-with_word : goal.returns-in-None-with_word
returns-in-None-with_word t c =
    ap (λ a. asked_by a (drop 1 c.args.words.now)) c.in-None-with_word.ensures ∙ sym (asked_word (asked_of c.args.wanted) c.word-item-2.result c.args.words.now c.in-len2-up.len_at_least c.word-item-2.is (grind arith))
