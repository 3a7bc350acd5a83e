use Rattle.shell_model.proofs.trace_commands.execute_on_named.Goals as goal

pub returns-in-Some : goal.returns-in-Some
returns-in-Some g c = rw c.in-Some.is c.execute_from.ensures

pub returns-in-None : goal.returns-in-None
returns-in-None g c = rw c.in-None.is c.refuse.ensures
