use Rattle.shell_model.specs.declared.trace_commands.TraceCommand.TheVariants as trace_command
use Rattle.shell_model.proofs.Guarding.{trace_guards}
use Rattle.shell_model.proofs.trace_commands.do_trace.Goals as goal

pub returns-clause-past : goal.returns-clause-past
returns-clause-past g c = (trace_guards trace_command.ExecuteTextTrace c.args.words.now _ _ _ _ c.do_execute_text_trace.ensures.happens).past
