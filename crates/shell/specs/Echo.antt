-- The command `echo`.
use Rattle.std.specs.Prelude.{ℕ, Bool, List, [], ◌++◌, Option, Some, None, codes, if◌then◌else◌}
use Rattle.cmd_table.specs.declared.given.Given.{Given}
use Rattle.cmd_table.specs.Options.{is_given, value_at}
use Rattle.shell_world.specs.declared.event.Event.TheVariants as event
use Rattle.shell_world.specs.declared.shell_event.ShellEvent.TheVariants.{Echo}
use Rattle.shell_world.specs.declared.event.Side.{Side}
use Rattle.shell_world.specs.declared.event.Side.TheVariants.{Errors, Output}
use Rattle.shell_world.specs.Processes.{MayLack, Process, Says}
use Rattle.shell_world.specs.Rows.{WithRow}
use Rattle.shell_world.specs.Steps.{Stores}
use Rattle.shell_world.specs.Texts.{joined}
use Rattle.cmd_table.specs.declared.commands.TheConstants.{ECHO}
use Rattle.shell_world.specs.declared.phase.Phase.TheVariants.{Start}

-- the options in the order of their row: `-2` writes to the error output, `-n` leaves the line end
-- out, `-o` writes to a file alone
abbrev pub to_errors : Given → Bool
to_errors given = is_given given 0

abbrev pub has_no_end : Given → Bool
has_no_end given = is_given given 1

abbrev pub echo_file : Given → Option (List ℕ)
echo_file given = value_at given.values 2

-- the words, and a line end unless it is left out
abbrev pub echoed : Given → List ℕ
echoed given = joined given.rest ++ (if has_no_end given then [] else codes "\n")

-- the side that they are written on
abbrev pub echo_side : Given → Side
echo_side given = if to_errors given then Errors else Output

-- they are written to a file, where one is given
abbrev pub EchoesTo : Given → Option (List ℕ) → Process
EchoesTo given None = Says (event.Shell (Echo (echo_side given) (echoed given)))
EchoesTo given (Some file) = Stores file (echoed given)

abbrev pub Echoes : List (List ℕ) → Process
Echoes words = WithRow ECHO Start words (λ given. MayLack (EchoesTo given (echo_file given)))
