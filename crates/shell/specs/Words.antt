-- The words and the lines of help of the commands of the shell itself.
use Rattle.std.specs.Prelude.{ℕ, List, codes}
use Rattle.shell.specs.declared.topics.ShellCommand.{ShellCommand}
use Rattle.shell.specs.declared.topics.ShellCommand.TheVariants as command

-- the word that a command is called by
abbrev pub shell_word : ShellCommand → List ℕ
shell_word command.Echo = codes "echo"
shell_word command.Help = codes "help"
shell_word command.Quit = codes "quit"
shell_word command.Reset = codes "reset"
shell_word command.Source = codes "source"

-- the command as a user writes it
abbrev pub shell_help : ShellCommand → List ℕ
shell_help command.Echo = codes "echo [-2] [-n] [-o file] [words]"
shell_help command.Help = codes "help [command]"
shell_help command.Quit = codes "quit"
shell_help command.Reset = codes "reset"
shell_help command.Source = codes "source [-p] [-s] [-x] file"
