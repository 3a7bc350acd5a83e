use Rattle.cmd_table.specs.declared.commands.TheConstants.{READ_MODEL}
use Rattle.shell_world.specs.declared.phase.Phase.TheVariants.{Start}
use Rattle.shell_world.proofs.Rowing.{with_row, without_row}
use Rattle.shell_world.specs.Processes.{MayLack}
use Rattle.shell_model.specs.ModelCommands.{ReadsBy, named_by}
use Rattle.shell_model.proofs.model_commands.do_read_model.Goals as goal

pub returns-in-Ok : goal.returns-in-Ok
returns-in-Ok g c = with_row READ_MODEL Start c.args.words.now (λ given. MayLack (ReadsBy (named_by given))) c.in-Ok.given c.in-Ok.ensures.given c.read_by.ensures

pub returns-in-Err : goal.returns-in-Err
returns-in-Err g c = without_row READ_MODEL Start c.args.words.now (λ given. MayLack (ReadsBy (named_by given))) c.in-Err.refusal c.in-Err.ensures.refused c.refuse.ensures
