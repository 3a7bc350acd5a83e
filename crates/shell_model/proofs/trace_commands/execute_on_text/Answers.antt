use Rattle.std.proofs.Common.{sym}
use Rattle.shell_model.proofs.TraceLemmas.{text_executed, text_not_executed}
use Rattle.shell_model.proofs.trace_commands.execute_on_text.Goals as goal

pub returns-in-Ok : goal.returns-in-Ok
returns-in-Ok g c = text_executed c.args.changes c.args.name.now c.args.text.now c.in-Ok.model c.in-Ok.ensures c.execute_on.ensures

pub returns-in-Err : goal.returns-in-Err
returns-in-Err g c = text_not_executed c.args.changes c.args.name.now c.args.text.now c.in-Err.fault c.in-Err.ensures (rw (sym c.model_refusal.ensures) c.refuse.ensures)
