use Rattle.std.proofs.Common.{sym}
use Rattle.cmd_table.specs.declared.commands.TheConstants.{UNSET}
use Rattle.shell_world.specs.declared.phase.Phase.TheVariants.{Start}
use Rattle.shell_world.specs.Steps.{WithFirst}
use Rattle.shell_world.proofs.Rowing.{with_row, without_row}
use Rattle.shell_settings.specs.Settings.{TakesBack}
use Rattle.shell_settings.proofs.settings.do_unset.Goals as goal

pub returns-in-Ok-clause-does : goal.returns-in-Ok-clause-does
returns-in-Ok-clause-does g c = with_row UNSET Start c.args.words.now (λ given. WithFirst TakesBack given.rest) c.in-Ok.given c.in-Ok.ensures.given (rw (sym c.as_slice.ensures) c.unset_with.ensures.does)

pub returns-in-Err-clause-does : goal.returns-in-Err-clause-does
returns-in-Err-clause-does g c = without_row UNSET Start c.args.words.now (λ given. WithFirst TakesBack given.rest) c.in-Err.refusal c.in-Err.ensures.refused c.refuse.ensures
