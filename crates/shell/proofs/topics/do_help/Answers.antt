use Rattle.std.proofs.Common.{sym}
use Rattle.cmd_table.specs.declared.commands.TheConstants.{HELP}
use Rattle.shell_world.specs.declared.phase.Phase.TheVariants.{Start}
use Rattle.shell_world.proofs.Rowing.{with_row, without_row}
use Rattle.shell.specs.Topics.{HelpsWith}
use Rattle.shell.proofs.topics.do_help.Goals as goal

pub returns-in-Ok : goal.returns-in-Ok
returns-in-Ok g c = with_row HELP Start c.args.words.now (λ given. HelpsWith given.rest) c.in-Ok.given c.in-Ok.ensures.given (rw (sym c.as_slice.ensures) c.help_with.ensures)

pub returns-in-Err : goal.returns-in-Err
returns-in-Err g c = without_row HELP Start c.args.words.now (λ given. HelpsWith given.rest) c.in-Err.refusal c.in-Err.ensures.refused c.refuse.ensures
