-- The texts of what the shell itself tells, and the sides that they are written on.
use Rattle.std.specs.Prelude.{ℕ, List, ◌++◌, codes}
use Rattle.shell_world.specs.declared.event.Side.{Side}
use Rattle.shell_world.specs.declared.event.Side.TheVariants.{Output}
use Rattle.shell_world.specs.declared.shell_event.ShellEvent.{ShellEvent}
use Rattle.shell_world.specs.declared.shell_event.ShellEvent.TheVariants.{Echo, Help, Line, Prompt}

abbrev pub shell_text : ShellEvent → List ℕ
shell_text (Echo side text) = text
shell_text (Help text) = text ++ codes "\n"
shell_text Prompt = codes "NuSMV > "
shell_text (Line line) = line ++ codes "\n"

abbrev pub shell_side : ShellEvent → Side
shell_side (Echo side text) = side
shell_side (Help text) = Output
shell_side Prompt = Output
shell_side (Line line) = Output
