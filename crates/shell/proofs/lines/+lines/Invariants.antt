use Rattle.std.proofs.Common.{◌≡◌, ◌+◌, ◌*◌, drop, length}
use Rattle.shell_world.proofs.Performing.{Completes}
use Rattle.shell_world.specs.Processes.{Each}
use Rattle.shell_world.specs.Scenes.{at, goes_along, goes_on}
use Rattle.shell.specs.Lines.{DoesCommand, DoesLine, DoesScriptLine, Sourcing}
use Rattle.text_lines.specs.Lines.{lines_of}
use Rattle.shell.proofs.lines.+lines.Given as goal

abbrev pub decreases-do_line : goal.decreases-do_line
decreases-do_line g l = 20 * l.depth + 8

abbrev pub decreases-do_commands : goal.decreases-do_commands
decreases-do_commands g l = 20 * l.depth + 7

abbrev pub decreases-do_command : goal.decreases-do_command
decreases-do_command g l = 20 * l.depth + 6

abbrev pub decreases-do_words : goal.decreases-do_words
decreases-do_words g l = 20 * l.depth + 5

abbrev pub decreases-do_any : goal.decreases-do_any
decreases-do_any g l = 20 * l.depth + 4

abbrev pub decreases-do_named : goal.decreases-do_named
decreases-do_named g l = 20 * l.depth + 3

abbrev pub decreases-do_shell : goal.decreases-do_shell
decreases-do_shell g l = 20 * l.depth + 2

abbrev pub decreases-do_source : goal.decreases-do_source
decreases-do_source g l = 20 * l.depth + 1

abbrev pub decreases-do_script : goal.decreases-do_script
decreases-do_script g l = 20 * l.depth

abbrev pub decreases-do_script_lines : goal.decreases-do_script_lines
decreases-do_script_lines g l = 20 * l.depth + 10

abbrev pub decreases-do_script_line : goal.decreases-do_script_line
decreases-do_script_line g l = 20 * l.depth + 9

-- what does the commands that are left does all of them
abbrev pub invariant-do_commands-loop-command : goal.invariant-do_commands-loop-command
invariant-do_commands-loop-command g l = record {
  completes : Completes (Each goes_along (DoesCommand (Sourcing l.depth)) (drop l.command-index l.commands)) (at l.state (g.W.Outside.told l.world)) (Each goes_along (DoesCommand (Sourcing l.depth)) l.commands) (at l.fn.state (g.W.Outside.told l.fn.world));
  past : l.state.past ≡ l.fn.state.past;
}

-- what does the lines that are left does all of them
abbrev pub invariant-do_script_lines-loop-rest : goal.invariant-do_script_lines-loop-rest
invariant-do_script_lines-loop-rest g l = record {
  completes : Completes (Each goes_on (DoesScriptLine (DoesLine l.depth) l.script) (lines_of l.rest)) (at l.state (g.W.Outside.told l.world)) (Each goes_on (DoesScriptLine (DoesLine l.depth) l.script) (lines_of l.text)) (at l.fn.state (g.W.Outside.told l.fn.world));
  past : l.state.past ≡ l.fn.state.past;
}

abbrev pub decreases-do_script_lines-loop-rest : goal.decreases-do_script_lines-loop-rest
decreases-do_script_lines-loop-rest g l = length l.rest
