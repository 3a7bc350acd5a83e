use Rattle.shell_world.specs.Steps.{WithFirst}
use Rattle.cmd_table.specs.declared.commands.TheConstants.{EXECUTE_TEXT_TRACE}
use Rattle.shell_world.specs.declared.phase.Phase.TheVariants.{Start}
use Rattle.shell_world.proofs.Rowing.{with_row, without_row}
use Rattle.shell_model.specs.TraceCommands.{Executes, has_changes}
use Rattle.shell_model.proofs.trace_commands.do_execute_text_trace.Goals as goal

pub returns-in-Ok : goal.returns-in-Ok
returns-in-Ok g c = with_row EXECUTE_TEXT_TRACE Start c.args.words.now (λ given. WithFirst (Executes (has_changes given)) given.rest) c.in-Ok.given c.in-Ok.ensures.given c.execute_by.ensures

pub returns-in-Err : goal.returns-in-Err
returns-in-Err g c = without_row EXECUTE_TEXT_TRACE Start c.args.words.now (λ given. WithFirst (Executes (has_changes given)) given.rest) c.in-Err.refusal c.in-Err.ensures.refused c.refuse.ensures
