-- The words of the commands of all topics: one case a topic.
use Rattle.std.specs.Prelude.{ℕ, List}
use Rattle.shell_model.specs.LogCommands.{log_word}
use Rattle.shell_model.specs.ModelCommands.{model_word}
use Rattle.shell_model.specs.TraceCommands.{trace_word}
use Rattle.shell_settings.specs.Settings.{settings_word}
use Rattle.shell.specs.declared.rows.Command.{Command}
use Rattle.shell.specs.declared.rows.Command.TheVariants as command
use Rattle.shell.specs.Words.{shell_word}

-- the word that a command is called by
abbrev pub word_of : Command → List ℕ
word_of (command.Settings c) = settings_word c
word_of (command.Model c) = model_word c
word_of (command.Trace c) = trace_word c
word_of (command.Log c) = log_word c
word_of (command.Shell c) = shell_word c
