use Rattle.std.proofs.Common.{sym}
use Rattle.sat_log_text.proofs.NumberLemmas.{number_of-none, not_plain, digits_answer}
use Rattle.sat_log_text.proofs.words.number.Goals as goal

pub returns-then-not-is_plain : goal.returns-then-not-is_plain
returns-then-not-is_plain c = sym (number_of-none c.args.word.now (not_plain c.args.word.now (sym c.if-not-is_plain.ensures)))

pub returns : goal.returns
returns c = digits_answer c.args.word.now c.digits.result (sym c.if-not-is_plain.ensures) c.digits.ensures.some c.digits.ensures.none
