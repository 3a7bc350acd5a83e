use Rattle.shell_world.proofs.Combining.{with_none}
use Rattle.shell_model.specs.TraceCommands.{Executes}
use Rattle.shell_model.proofs.trace_commands.execute_first.Goals as goal

pub returns-in-empty : goal.returns-in-empty
returns-in-empty g c = with_none (Executes c.args.changes) c.args.names.now _ c.in-empty.len_below
