use Rattle.std.proofs.Common.{sym}
use Rattle.shell_model.proofs.ModelLemmas.{text_refused, text_taken}
use Rattle.shell_model.proofs.model_commands.take_text.Goals as goal

pub returns-in-Ok : goal.returns-in-Ok
returns-in-Ok g c = text_taken c.args.file.now c.args.text.now c.in-Ok.model c.in-Ok.ensures c.keep_read.ensures

pub returns-in-Err : goal.returns-in-Err
returns-in-Err g c = text_refused c.args.file.now c.args.text.now c.in-Err.fault c.in-Err.ensures (rw (sym c.model_refusal.ensures) c.refuse.ensures)
