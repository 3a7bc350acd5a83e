use Rattle.shell_model.proofs.LogLemmas.{log_refused, log_told}
use Rattle.shell_model.proofs.log_commands.check_text.Goals as goal

pub returns-in-Ok : goal.returns-in-Ok
returns-in-Ok g c = log_told c.args.text.now c.in-Ok.said c.in-Ok.ensures.checked c.say.ensures

pub returns-in-Err : goal.returns-in-Err
returns-in-Err g c = log_refused c.args.text.now c.in-Err.fault c.in-Err.ensures.refused c.refuse.ensures
