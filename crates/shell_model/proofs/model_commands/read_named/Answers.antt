use Rattle.shell_model.proofs.model_commands.read_named.Goals as goal

pub returns-in-Some : goal.returns-in-Some
returns-in-Some g c = rw c.in-Some.is c.read_unless_there.ensures

pub returns-in-None : goal.returns-in-None
returns-in-None g c = rw c.in-None.is c.refuse_unnamed.ensures
