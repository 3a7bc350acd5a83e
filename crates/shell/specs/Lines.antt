-- What a line does, and a script, line by line.
use Rattle.std.specs.Prelude.{ℕ, zero, suc, Bool, true, false, List, [], ◌∷◌, Option, Some, None, option_map, slice_get, Result, Ok, Err}
use Rattle.cmd_table.specs.declared.given.Given.{Given}
use Rattle.cmd_table.specs.Options.{is_given}
use Rattle.outside.specs.declared.files.FileFault.{FileFault}
use Rattle.outside.specs.declared.files.FileFault.TheVariants as faults
use Rattle.shell_lang.specs.declared.fault.LangFault.{LangFault}
use Rattle.shell_lang.specs.declared.line.Piece.{Piece}
use Rattle.shell_lang.specs.Filled.{Expands}
use Rattle.shell_lang.specs.Lines.{Splits}
use Rattle.text_lines.specs.Lines.{lines_of}
use Rattle.shell.specs.Echo.{Echoes}
use Rattle.shell_model.specs.LogCommands.{DoesLog}
use Rattle.shell_model.specs.ModelCommands.{DoesModel}
use Rattle.shell_model.specs.TraceCommands.{DoesTrace}
use Rattle.shell_settings.specs.Settings.{DoesSettings}
use Rattle.shell_world.specs.declared.end.End.TheVariants as ends
use Rattle.shell_world.specs.declared.event.Event.TheVariants as event
use Rattle.shell_world.specs.declared.shell_event.ShellEvent.TheVariants as shell
use Rattle.shell_world.specs.declared.refusal.Refusal.TheVariants as refusal
use Rattle.shell_world.specs.declared.state.State.{State}
use Rattle.shell_world.specs.Processes.{Each, Either, Ends, ForSome, Knowing, LacksMemory, MayLack, Process, Refuses, Says, SaysIf, Then, Where}
use Rattle.shell_world.specs.Scenes.{goes_along, goes_on}
use Rattle.shell_world.specs.Steps.{ReadsWhole, RefusesFile}
use Rattle.shell_world.specs.Rows.{WithRow}
use Rattle.shell.specs.declared.rows.Command.{Command}
use Rattle.shell.specs.declared.rows.Command.TheVariants as command
use Rattle.shell.specs.declared.script.Script.{Script}
use Rattle.shell.specs.declared.topics.ShellCommand.{ShellCommand}
use Rattle.shell.specs.declared.topics.ShellCommand.TheVariants as own
use Rattle.cmd_table.specs.declared.commands.TheConstants.{SOURCE}
use Rattle.shell_world.specs.declared.phase.Phase.TheVariants.{Start}
use Rattle.shell.specs.Rows.{command_of}
use Rattle.shell.specs.Topics.{Helps, Leaves, NamesNoCommand, Resets}

-- the options of `source` in the order of its row: `-p` writes a prompt before each line, `-s` says
-- that the file may be absent, `-x` writes each line before it is done
abbrev pub has_prompts : Given → Bool
has_prompts given = is_given given 0

abbrev pub is_lenient : Given → Bool
is_lenient given = is_given given 1

abbrev pub shows_lines : Given → Bool
shows_lines given = is_given given 2

abbrev pub script_of : Given → List ℕ → Script
script_of given file = record {
  file = file;
  prompts = has_prompts given;
  lenient = is_lenient given;
  shows = shows_lines given;
}

-- the script that `source` names
abbrev pub given_script : Given → Option Script
given_script given = option_map (script_of given) (slice_get given.rest 0)

abbrev pub DoesGiven : (Script → Process) → Option Script → Process
DoesGiven nested None = Ends ends.Went
DoesGiven nested (Some script) = nested script

abbrev pub DoesSource : (Script → Process) → List (List ℕ) → Process
DoesSource nested words =
    WithRow SOURCE Start words (λ given. DoesGiven nested (given_script given))

-- a command of the shell itself with its words, one case each
abbrev pub DoesShell : (Script → Process) → ShellCommand → List (List ℕ) → Process
DoesShell nested own.Echo words = Echoes words
DoesShell nested own.Help words = Helps words
DoesShell nested own.Quit words = Leaves words
DoesShell nested own.Reset words = Resets words
DoesShell nested own.Source words = DoesSource nested words

-- a command with its words, one case a topic
abbrev pub DoesNamed : (Script → Process) → Command → List (List ℕ) → Process
DoesNamed nested (command.Settings c) words = DoesSettings c words
DoesNamed nested (command.Model c) words = DoesModel c words
DoesNamed nested (command.Trace c) words = DoesTrace c words
DoesNamed nested (command.Log c) words = DoesLog c words
DoesNamed nested (command.Shell c) words = DoesShell nested c words

abbrev pub DoesAny : (Script → Process) → Option Command → List ℕ → List (List ℕ) → Process
DoesAny nested (Some c) word words = DoesNamed nested c words
DoesAny nested None word words = NamesNoCommand word

-- the words that a command became, or the fault in it
abbrev pub DoesWords : (Script → Process) → Result (List (List ℕ)) LangFault → Process
DoesWords nested (Ok []) = Ends ends.Went
DoesWords nested (Ok (word ∷ words)) = DoesAny nested (command_of word) word words
DoesWords nested (Err fault) = Refuses (refusal.Language fault)

-- what becomes of them, in this session
abbrev pub DoesPieces : (Script → Process) → List (List Piece) → State → Process
DoesPieces nested pieces state =
    ForSome (λ answer.
    Where (Expands state.vars state.aliases pieces answer) (DoesWords nested answer))

-- a command of a line: its variables are replaced, and then aliases at its head
abbrev pub DoesCommand : (Script → Process) → List (List Piece) → Process
DoesCommand nested pieces =
    MayLack (Knowing (DoesPieces nested pieces))

-- the commands of a line, up to the first that does not go well
abbrev pub DoesCommands : (Script → Process) → Result (List (List (List Piece))) LangFault → Process
DoesCommands nested (Ok commands) = Each goes_along (DoesCommand nested) commands
DoesCommands nested (Err fault) = Refuses (refusal.Language fault)

-- a line, where scripts mean this
abbrev pub DoesLineBy : (Script → Process) → List ℕ → Process
DoesLineBy nested line =
    Either LacksMemory (ForSome (λ answer. Where (Splits line answer) (DoesCommands nested answer)))

-- a line of a script is written before it is done, where that is asked for; where memory is refused for
-- that, the line is refused
abbrev pub ShowsScriptLine : Bool → List ℕ → Process
ShowsScriptLine true line = MayLack (Says (event.Shell (shell.Line line)))
ShowsScriptLine false line = Ends ends.Went

-- a line of a script
abbrev pub DoesScriptLine : (List ℕ → Process) → Script → List ℕ → Process
DoesScriptLine inner script line =
    Then (SaysIf script.prompts (event.Shell shell.Prompt))
    (Then (ShowsScriptLine script.shows line) (inner line))

-- a script has at most so many bytes
abbrev pub script_limit : ℕ
script_limit = 4194304

-- a fault that is passed over where it may be
abbrev pub Unless : Bool → Process → Process
Unless true P = Ends ends.Went
Unless false P = P

-- a script that was not read: it may be that it need not be there
abbrev pub LacksScript : Script → FileFault → Process
LacksScript script faults.NotThere =
    Unless script.lenient (RefusesFile script_limit script.file faults.NotThere)
LacksScript script (faults.TooLong size) =
    RefusesFile script_limit script.file (faults.TooLong size)
LacksScript script faults.Failed = RefusesFile script_limit script.file faults.Failed
LacksScript script (faults.NoMemory e) = RefusesFile script_limit script.file (faults.NoMemory e)

-- its lines, as long as the session goes on
abbrev pub DoesScriptLines : (List ℕ → Process) → Script → List ℕ → Process
DoesScriptLines inner script text = Each goes_on (DoesScriptLine inner script) (lines_of text)

abbrev pub RunsScript : (List ℕ → Process) → Script → Result (List ℕ) FileFault → Process
RunsScript inner script (Ok text) = DoesScriptLines inner script text
RunsScript inner script (Err fault) = LacksScript script fault

abbrev pub Sources : (List ℕ → Process) → Script → Process
Sources inner script =
    ForSome (λ answer.
    Then (ReadsWhole script_limit script.file answer) (RunsScript inner script answer))

-- a script, where so many more may be nested
unfoldable pub Sourcing : ℕ → Script → Process
Sourcing zero script = Refuses refusal.TooDeep
Sourcing (suc depth) script = Sources (λ line. DoesLineBy (Sourcing depth) line) script

-- a line, where so many scripts may be nested
abbrev pub DoesLine : ℕ → List ℕ → Process
DoesLine depth line = DoesLineBy (Sourcing depth) line
