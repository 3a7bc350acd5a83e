use Rattle.shell_world.proofs.Keeping.{guarded_refused}
use Rattle.shell_model.specs.Refused.{LogMayChange, ModelMayChange, TraceMayChange}
use Rattle.shell_model.proofs.Guarding.{log_guards, model_guards, trace_guards}
use Rattle.shell_model.proofs.laws.refused_command_changes_nothing.Goals as goal

pub returns-clause-log : goal.returns-clause-log
returns-clause-log c = λ k words. guarded_refused (LogMayChange k words) (log_guards k words)

pub returns-clause-model : goal.returns-clause-model
returns-clause-model c = λ k words. guarded_refused (ModelMayChange k words) (model_guards k words)

pub returns-clause-trace : goal.returns-clause-trace
returns-clause-trace c = λ k words. guarded_refused (TraceMayChange k words) (trace_guards k words)
