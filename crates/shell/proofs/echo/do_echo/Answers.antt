use Rattle.cmd_table.specs.declared.commands.TheConstants.{ECHO}
use Rattle.shell_world.specs.declared.phase.Phase.TheVariants.{Start}
use Rattle.shell.specs.Echo.{EchoesTo, echo_file}
use Rattle.shell_world.specs.Processes.{MayLack}
use Rattle.shell_world.proofs.Rowing.{with_row, without_row}
use Rattle.shell.proofs.echo.do_echo.Goals as goal

pub returns-in-Ok : goal.returns-in-Ok
returns-in-Ok g c =
    with_row ECHO Start c.args.words.now (λ given. MayLack (EchoesTo given (echo_file given))) c.in-Ok.given c.in-Ok.ensures.given c.echo_given.ensures

pub returns-in-Err : goal.returns-in-Err
returns-in-Err g c =
    without_row ECHO Start c.args.words.now (λ given. MayLack (EchoesTo given (echo_file given))) c.in-Err.refusal c.in-Err.ensures.refused c.refuse.ensures
