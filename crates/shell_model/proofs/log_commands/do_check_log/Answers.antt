use Rattle.std.proofs.Common.{sym}
use Rattle.cmd_table.specs.declared.commands.TheConstants.{CHECK_LOG}
use Rattle.shell_world.specs.declared.phase.Phase.TheVariants.{Start}
use Rattle.shell_world.proofs.Rowing.{with_row, without_row}
use Rattle.shell_world.specs.Steps.{WithFirst}
use Rattle.shell_model.specs.LogCommands.{ChecksFile}
use Rattle.shell_model.proofs.log_commands.do_check_log.Goals as goal

pub returns-in-Ok : goal.returns-in-Ok
returns-in-Ok g c = with_row CHECK_LOG Start c.args.words.now (λ given. WithFirst ChecksFile given.rest) c.in-Ok.given c.in-Ok.ensures.given (rw (sym c.as_slice.ensures) c.check_first.ensures)

pub returns-in-Err : goal.returns-in-Err
returns-in-Err g c = without_row CHECK_LOG Start c.args.words.now (λ given. WithFirst ChecksFile given.rest) c.in-Err.refusal c.in-Err.ensures.refused c.refuse.ensures
