use Rattle.shell_world.proofs.Combining.{with_none}
use Rattle.shell_model.specs.LogCommands.{ChecksFile}
use Rattle.shell_model.proofs.log_commands.check_first.Goals as goal

pub returns-in-empty : goal.returns-in-empty
returns-in-empty g c = with_none ChecksFile c.args.names.now _ c.in-empty.len_below
