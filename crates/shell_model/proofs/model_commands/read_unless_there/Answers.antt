use Rattle.shell_model.proofs.ModelLemmas.{there_is_none, there_is_one}
use Rattle.shell_model.proofs.model_commands.read_unless_there.Goals as goal

pub returns-in-Some : goal.returns-in-Some
returns-in-Some g c = there_is_one c.args.file.now c.args.state.now.model _ c.in-Some.is c.refuse.ensures

pub returns-in-None : goal.returns-in-None
returns-in-None g c = there_is_none c.args.file.now c.args.state.now.model c.in-None.is c.read_file_as_model.ensures
