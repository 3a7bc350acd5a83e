-- The commands of the shell itself that need no script and no file: `help`, `quit` and `reset`.
use Rattle.std.specs.Prelude.{ℕ, List, [], ◌∷◌, Option, Some, None}
use Rattle.shell_world.specs.declared.end.End.TheVariants as ends
use Rattle.shell_world.specs.declared.event.Event.TheVariants as event
use Rattle.shell_world.specs.declared.shell_event.ShellEvent.TheVariants as shell
use Rattle.shell_world.specs.declared.phase.Phase.TheVariants.{Start}
use Rattle.shell_world.specs.declared.refusal.Refusal.TheVariants as refusal
use Rattle.shell_world.specs.declared.state.State.{State}
use Rattle.shell_world.specs.Processes.{Becomes, Each, Ends, ForSome, MayLack, Process, Refuses, Says, Where}
use Rattle.shell_world.specs.Rows.{WithRow}
use Rattle.shell_world.specs.Scenes.{goes_along, no_work}
use Rattle.shell.specs.declared.rows.Command.{Command}
use Rattle.cmd_table.specs.declared.commands.TheConstants.{HELP, QUIT, RESET}
use Rattle.shell.specs.Rows.{AreListed, command_of, help_of}

-- a line of help
abbrev pub HelpsLine : List ℕ → Process
HelpsLine line = MayLack (Says (event.Shell (shell.Help line)))

-- the words of all commands, a line each
abbrev pub HelpsAll : Process
HelpsAll =
    MayLack (ForSome (λ words. Where (AreListed words) (Each goes_along HelpsLine words)))

-- a word that is no command
abbrev pub NamesNoCommand : List ℕ → Process
NamesNoCommand word = MayLack (Refuses (refusal.NoCommand word))

-- how a command is written
abbrev pub HelpsOn : List ℕ → Option Command → Process
HelpsOn word (Some c) = HelpsLine (help_of c)
HelpsOn word None = NamesNoCommand word

abbrev pub HelpsWith : List (List ℕ) → Process
HelpsWith [] = HelpsAll
HelpsWith (word ∷ words) = HelpsOn word (command_of word)

abbrev pub Helps : List (List ℕ) → Process
Helps words = WithRow HELP Start words (λ given. HelpsWith given.rest)

abbrev pub Leaves : List (List ℕ) → Process
Leaves words = WithRow QUIT Start words (λ given. Ends ends.Quits)

-- the model is dropped, with what was worked out of it; variables, aliases and remembered lines stay
abbrev pub without_model : State → State
without_model state = record state { model = None; done = Start; work = no_work }

abbrev pub Resets : List (List ℕ) → Process
Resets words = WithRow RESET Start words (λ given. Becomes without_model)
