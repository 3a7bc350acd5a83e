use Rattle.shell_model.specs.declared.model_commands.ModelCommand.TheVariants as model_command
use Rattle.shell_model.proofs.Guarding.{model_guards}
use Rattle.shell_model.proofs.model_commands.do_model.Goals as goal

pub returns-clause-past : goal.returns-clause-past
returns-clause-past g c = (model_guards model_command.ReadModel c.args.words.now _ _ _ _ c.do_read_model.ensures.happens).past
