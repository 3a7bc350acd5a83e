-- The commands of all topics, by their words: one case a topic.
use Rattle.std.specs.Prelude.{ℕ, List, ◌++◌, Option, map, option_map}
use Rattle.std.specs.Cmp.Lexicographic.{slice_cmp}
use Rattle.std.specs.List.Sorted.{IsPermutation, IsSorted}
use Rattle.std.specs.Option.{option_or}
use Rattle.std.specs.Ordering.{nat_cmp}
use Rattle.shell_model.specs.declared.log_commands.TheConstants.{LOG_COMMANDS}
use Rattle.shell_model.specs.declared.model_commands.TheConstants.{MODEL_COMMANDS}
use Rattle.shell_model.specs.declared.trace_commands.TheConstants.{TRACE_COMMANDS}
use Rattle.shell_model.specs.LogCommands.{log_help, log_word}
use Rattle.shell_model.specs.ModelCommands.{model_help, model_word}
use Rattle.shell_model.specs.TraceCommands.{trace_help, trace_word}
use Rattle.shell_settings.specs.declared.settings.TheConstants.{SETTINGS_COMMANDS}
use Rattle.shell_settings.specs.Settings.{settings_help, settings_word}
use Rattle.shell_world.specs.Rows.{with_word}
use Rattle.shell.specs.declared.rows.Command.{Command}
use Rattle.shell.specs.declared.rows.Command.TheVariants as command
use Rattle.shell.specs.declared.topics.TheConstants.{SHELL_COMMANDS}
use Rattle.shell.specs.Words.{shell_help, shell_word}

-- the command as a user writes it
abbrev pub help_of : Command → List ℕ
help_of (command.Settings c) = settings_help c
help_of (command.Model c) = model_help c
help_of (command.Trace c) = trace_help c
help_of (command.Log c) = log_help c
help_of (command.Shell c) = shell_help c

-- the command of a word
abbrev pub command_of : List ℕ → Option Command
command_of word =
    option_or (option_map command.Settings (with_word settings_word SETTINGS_COMMANDS word))
    (option_or (option_map command.Model (with_word model_word MODEL_COMMANDS word))
    (option_or (option_map command.Trace (with_word trace_word TRACE_COMMANDS word))
    (option_or (option_map command.Log (with_word log_word LOG_COMMANDS word))
    (option_map command.Shell (with_word shell_word SHELL_COMMANDS word)))))

-- the words of all topics
abbrev pub all_words : List (List ℕ)
all_words =
    map settings_word SETTINGS_COMMANDS ++ map model_word MODEL_COMMANDS
    ++ map trace_word TRACE_COMMANDS ++ map log_word LOG_COMMANDS ++ map shell_word SHELL_COMMANDS

-- these are the words of all commands, in the order of their bytes
pub record AreListed (words : List (List ℕ)) : Type 0 where
  pub all : IsPermutation all_words words
  pub rise : IsSorted (slice_cmp nat_cmp) words
