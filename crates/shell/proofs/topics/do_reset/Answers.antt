use Rattle.cmd_table.specs.declared.commands.TheConstants.{RESET}
use Rattle.shell_world.specs.declared.phase.Phase.TheVariants.{Start}
use Rattle.shell_world.proofs.Rowing.{with_row, without_row}
use Rattle.shell_world.proofs.Performing.{became}
use Rattle.shell_world.specs.Processes.{Becomes}
use Rattle.shell.specs.Topics.{without_model}
use Rattle.shell.proofs.topics.do_reset.Goals as goal

pub returns-in-Ok-clause-does : goal.returns-in-Ok-clause-does
returns-in-Ok-clause-does g c =
    with_row RESET Start c.args.words.now (λ given. Becomes without_model) _ c.in-Ok.ensures.given (became without_model c.args.state.now _ (g.W.Outside.told c.args.world.now) c.drop_model.ensures)

pub returns-clause-does : goal.returns-clause-does
returns-clause-does g c = without_row RESET Start c.args.words.now (λ given. Becomes without_model) c.in-Err.refusal c.in-Err.ensures.refused c.refuse.ensures
