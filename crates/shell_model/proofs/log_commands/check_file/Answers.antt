use Rattle.std.proofs.Common.{sym}
use Rattle.shell_world.proofs.Combining.{with_file, without_file}
use Rattle.shell_model.specs.LogCommands.{ChecksText}
use Rattle.shell_model.proofs.log_commands.check_file.Goals as goal

pub returns-in-Ok : goal.returns-in-Ok
returns-in-Ok g c = with_file _ c.args.name.now ChecksText c.in-Ok.text (c.in-Ok.ensures c.args.state.now) (rw (sym c.as_slice.ensures) c.check_text.ensures)

pub returns-in-Err : goal.returns-in-Err
returns-in-Err g c = without_file _ c.args.name.now ChecksText c.in-Err.fault (c.in-Err.ensures c.args.state.now) c.refuse_file.ensures
