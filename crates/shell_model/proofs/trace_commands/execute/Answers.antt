use Rattle.shell_model.proofs.TraceLemmas.{on_kept, on_read}
use Rattle.shell_model.proofs.trace_commands.execute.Goals as goal

pub returns-in-Some : goal.returns-in-Some
returns-in-Some g c = on_kept c.args.changes c.args.name.now _ c.in-Some.is c.judge_file.ensures

pub returns-in-None : goal.returns-in-None
returns-in-None g c = on_read c.args.changes c.args.name.now c.in-None.is c.execute_named.ensures
