-- What a refused command, and a line at it, leave as it was, and what they may have changed.
use Rattle.std.specs.Prelude.{◌≡◌, ◌⊎◌, ℕ, zero, suc, List, ◌∷◌, ◌++◌, Some, Ok, Err}
use Rattle.cmd_table.specs.declared.given.Given.{Given}
use Rattle.cmd_table.specs.Options.{Options}
use Rattle.shell_lang.specs.declared.fault.LangFault.{LangFault}
use Rattle.shell_lang.specs.declared.line.Piece.{Piece}
use Rattle.shell_lang.specs.Filled.{Expands}
use Rattle.shell_lang.specs.Lines.{Splits}
use Rattle.shell_lang.specs.Recall.{recalled}
use Rattle.shell_model.specs.Refused.{LogMayChange, ModelMayChange, TraceMayChange}
use Rattle.shell_settings.specs.Refused.{SettingsMayChange}
use Rattle.shell_world.specs.declared.end.End.TheVariants as ends
use Rattle.shell_world.specs.Happenings.{Happening}
use Rattle.shell_world.specs.Keeping.{IsKept, IsKeptBut}
use Rattle.shell_world.specs.Processes.{Each}
use Rattle.shell_world.specs.Scenes.{Scene, goes_along}
use Rattle.shell.specs.declared.rows.Command.{Command}
use Rattle.shell.specs.declared.rows.Command.TheVariants as command
use Rattle.shell.specs.declared.script.Script.{Script}
use Rattle.shell.specs.declared.topics.ShellCommand.{ShellCommand}
use Rattle.shell.specs.declared.topics.ShellCommand.TheVariants as own
use Rattle.cmd_table.specs.declared.commands.TheConstants.{ECHO, SOURCE}
use Rattle.shell.specs.Echo.{echo_file, echoed}
use Rattle.shell.specs.Lines.{DoesCommand, DoesLine, DoesNamed, DoesScriptLines, Sourcing, given_script}
use Rattle.shell.specs.Rows.{command_of}
use Rattle.shell.specs.Sessions.{nesting_limit, remembered}

-- the file that `echo -o` names was refused, and it may have a front of what was to be written to it
pub record BreaksFile (words : List (List ℕ)) (old new : Scene) : Type 0 where
  pub given : Given
  pub file : List ℕ
  pub reads : Options ECHO words (Ok given)
  pub named : echo_file given ≡ Some file
  pub kept : IsKeptBut file (echoed given) old new

-- a script was read, and all that was changed was changed by its lines, of which the last was refused
pub record RunsLines (depth : ℕ) (script : Script) (old new : Scene) : Type 0 where
  pub text : List ℕ
  pub mid : Scene
  pub events : List Happening
  pub kept : IsKept old mid
  pub lines : DoesScriptLines (DoesLine depth) script text mid events ends.Refused new

-- no script is read where none may be nested
abbrev pub RunsScriptLines : ℕ → Script → Scene → Scene → Type 0
RunsScriptLines zero script old new = ⊥
RunsScriptLines (suc depth) script old new = RunsLines depth script old new

-- the script is the one that the words of `source` name
pub record RunsGiven (depth : ℕ) (words : List (List ℕ)) (old new : Scene) : Type 0 where
  pub given : Given
  pub script : Script
  pub reads : Options SOURCE words (Ok given)
  pub named : given_script given ≡ Some script
  pub runs : RunsScriptLines depth script old new

-- what a refused command of the shell itself may have changed: `echo` a file, and `source` what its
-- lines change; any other nothing
abbrev pub ShellMayChange : ℕ → ShellCommand → List (List ℕ) → Scene → List Happening → Scene → Type 0
ShellMayChange depth own.Echo words old events new = BreaksFile words old new
ShellMayChange depth own.Source words old events new = RunsGiven depth words old new
ShellMayChange depth other words old events new = ⊥

-- what a refused command may have changed where these events happened, one case a topic
abbrev pub MayChange : ℕ → Command → List (List ℕ) → Scene → List Happening → Scene → Type 0
MayChange depth (command.Settings c) words old events new = SettingsMayChange c words old events new
MayChange depth (command.Model c) words old events new = ModelMayChange c words old events new
MayChange depth (command.Trace c) words old events new = TraceMayChange c words old events new
MayChange depth (command.Log c) words old events new = LogMayChange c words old events new
MayChange depth (command.Shell c) words old events new = ShellMayChange depth c words old events new

-- a refused command changed nothing, or what it may change
abbrev pub ChangesLittle : ℕ → Command → List (List ℕ) → Scene → List Happening → Scene → Type 0
ChangesLittle depth c words old events new = IsKept old new ⊎ MayChange depth c words old events new

-- the same of a command of a line, with its variables and aliases replaced
pub record ChangesMore (depth : ℕ) (pieces : List (List Piece)) (old new : Scene) : Type 0 where
  pub word : List ℕ
  pub words : List (List ℕ)
  pub found : Command
  pub events : List Happening
  pub expands : Expands old.state.vars old.state.aliases pieces (Ok (word ∷ words))
  pub called : command_of word ≡ Some found
  pub does : DoesNamed (Sourcing depth) found words old events ends.Refused new
  pub changed : MayChange depth found words old events new

-- a line's commands went well up to a refused one, and all is as they left it but for what that one may
-- have changed
pub record RefusedAfter (depth : ℕ) (commands : List (List (List Piece)))
    (old new : Scene) : Type 0 where
  pub before : List (List (List Piece))
  pub refused : List (List Piece)
  pub behind : List (List (List Piece))
  pub events : List Happening
  pub mid : Scene
  pub are : commands ≡ before ++ refused ∷ behind
  pub went : Each goes_along (DoesCommand (Sourcing depth)) before old events ends.Went mid
  pub kept : IsKept mid new ⊎ ChangesMore depth refused mid new

-- a refused line was not split, and changed nothing, or a command of it was refused
abbrev pub RefusedLine : ℕ → List ℕ → Scene → Scene → Type 0
RefusedLine depth line old new =
    ((fault : LangFault) × Splits line (Err fault) × IsKept old new)
    ⊎ ((commands : List (List (List Piece))) × Splits line (Ok commands)
    × RefusedAfter depth commands old new)

-- a refused line of input was not recalled, and changed nothing, or it is remembered, and what was
-- recalled was refused
abbrev pub RefusedInput : List ℕ → Scene → Scene → Type 0
RefusedInput line old new =
    ((fault : LangFault) × (recalled old.state.past line ≡ Err fault) × IsKept old new)
    ⊎ ((found : List ℕ) × (recalled old.state.past line ≡ Ok found)
    × RefusedLine nesting_limit found (record old { state = remembered found old.state }) new)
