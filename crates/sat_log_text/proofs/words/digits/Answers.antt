use Rattle.std.proofs.Common.{◌+◌, ◌*◌, ◌<◌, ◌≤◌, ◌^◌, take, ap, sym, subst, ◌∙◌, arith}
use Rattle.std.specs.Str.Parse.{digits_value}
use Rattle.std.proofs.lemmas.Int.Digits.{digits_value_more, digits_more}
use Rattle.sat_log_text.proofs.NumberLemmas.{bad_digit, too_great, at_none, past_greatest, within_greatest}
use Rattle.sat_log_text.proofs.words.digits.Goals as goal

pub returns-in_err-digit-clause-none : goal.returns-in_err-digit-clause-none
returns-in_err-digit-clause-none c =
    at_none _ (bad_digit c.args.word.now c.loop-byte.byte-index (omega arith) c.in_err-digit.ensures.none)

pub returns-then-value-digit-clause-none : goal.returns-then-value-digit-clause-none
returns-then-value-digit-clause-none c =
    let digit = c.in_ok-digit.ensures.some in
    let over = past_greatest c.loop-byte.value c.in_ok-digit.digit digit.0 c.if-value-digit.true in
    too_great c.args.word.now c.loop-byte.byte-index c.in_ok-digit.digit (omega arith) digit.1 (subst (λ v. 2 ^ 63 ≤ v * 10 + c.in_ok-digit.digit) c.loop-byte.invariant.value over)

pub loop-byte-preserved : goal.loop-byte-preserved
loop-byte-preserved c =
    let digit = c.in_ok-digit.ensures.some in
    let more = digits_value_more 10 c.args.word.now c.loop-byte.byte-index (omega arith) in
    record {
      digits = digits_more 10 c.args.word.now c.loop-byte.byte-index (omega arith) c.loop-byte.invariant.digits (subst (λ d. d < 10) digit.1 digit.0);
      value = ap (λ v. v * 10 + c.in_ok-digit.digit) c.loop-byte.invariant.value ∙ ap (λ d. digits_value 10 (take c.loop-byte.byte-index c.args.word.now) * 10 + d) digit.1 ∙ sym more;
      small = within_greatest c.loop-byte.value c.in_ok-digit.digit digit.0 c.if-value-digit.false;
    }
