-- What a refused command of the model, of traces or of the log may have changed.
use Rattle.std.specs.Prelude.{ℕ, List}
use Rattle.shell_model.specs.declared.log_commands.LogCommand.{LogCommand}
use Rattle.shell_model.specs.declared.model_commands.ModelCommand.{ModelCommand}
use Rattle.shell_model.specs.declared.trace_commands.TraceCommand.{TraceCommand}
use Rattle.shell_world.specs.Happenings.{Happening}
use Rattle.shell_world.specs.Scenes.{Scene}

-- nothing
abbrev pub ModelMayChange : ModelCommand → List (List ℕ) → Scene → List Happening → Scene → Type 0
ModelMayChange c words old events new = ⊥

abbrev pub TraceMayChange : TraceCommand → List (List ℕ) → Scene → List Happening → Scene → Type 0
TraceMayChange c words old events new = ⊥

abbrev pub LogMayChange : LogCommand → List (List ℕ) → Scene → List Happening → Scene → Type 0
LogMayChange c words old events new = ⊥
