use Rattle.cmd_table.specs.declared.commands.TheConstants.{QUIT}
use Rattle.shell_world.specs.declared.phase.Phase.TheVariants.{Start}
use Rattle.shell_world.proofs.Rowing.{with_row, without_row}
use Rattle.shell_world.proofs.Performing.{ended}
use Rattle.shell_world.specs.declared.end.End.TheVariants as ends
use Rattle.shell_world.specs.Processes.{Ends}
use Rattle.shell.proofs.topics.do_quit.Goals as goal

pub returns-in-Ok : goal.returns-in-Ok
returns-in-Ok g c = with_row QUIT Start c.args.words.now (λ given. Ends ends.Quits) _ c.in-Ok.ensures.given (ended ends.Quits _ (λ e. cc))

pub returns : goal.returns
returns g c = without_row QUIT Start c.args.words.now (λ given. Ends ends.Quits) c.in-Err.refusal c.in-Err.ensures.refused c.refuse.ensures
