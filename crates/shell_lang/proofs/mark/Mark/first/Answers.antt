use Rattle.std.proofs.Common.{arith}
use Rattle.std.proofs.lemmas.Grind.{common_steps}
use Rattle.shell_lang.proofs.Starts.{past_quote, past_dollar}
use Rattle.shell_lang.proofs.mark.Mark.first.Goals as goal

pub returns-in_ok-mark-in-34 : goal.returns-in_ok-mark-in-34
returns-in_ok-mark-in-34 c =
    past_quote c.args.line.now _ _ _ (omega arith) (omega arith) (grind (arith, common_steps)) c.in_ok-mark-in-34.ensures

pub returns-in_ok-mark-in-36 : goal.returns-in_ok-mark-in-36
returns-in_ok-mark-in-36 c =
    past_dollar c.args.line.now _ _ _ (omega arith) (omega arith) (grind (arith, common_steps)) c.in_ok-mark-in-36.ensures
