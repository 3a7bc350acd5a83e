-- Commands, lines and scripts read no input, end in no way that only the input has, and tell faults of files by their cause.
use Rattle.std.proofs.Common.{◌≡◌, ℕ, zero, suc, Bool, true, false, List, [], ◌∷◌, inl, inr, refl, sym, subst}
use Rattle.std.specs.Prelude.{Option, None, Some, Result, Ok, Err}
use Rattle.cmd_table.specs.declared.given.Given.{Given}
use Rattle.outside.specs.declared.files.FileFault.{FileFault}
use Rattle.outside.specs.declared.files.FileFault.TheVariants as faults
use Rattle.shell_lang.specs.declared.fault.LangFault.{LangFault}
use Rattle.shell_lang.specs.declared.line.Piece.{Piece}
use Rattle.shell_model.specs.declared.log_commands.LogCommand.{LogCommand}
use Rattle.shell_model.specs.declared.model_commands.ModelCommand.{ModelCommand}
use Rattle.shell_model.specs.declared.trace_commands.TraceCommand.{TraceCommand}
use Rattle.shell_model.specs.LogCommands.{DoesLog}
use Rattle.shell_model.specs.ModelCommands.{DoesModel}
use Rattle.shell_model.specs.TraceCommands.{DoesTrace}
use Rattle.shell_settings.specs.declared.settings.SettingsCommand.{SettingsCommand}
use Rattle.shell_settings.specs.Settings.{DoesSettings}
use Rattle.shell_world.specs.declared.end.End.{End}
use Rattle.shell_world.specs.declared.end.End.TheVariants as ends
use Rattle.shell_world.specs.declared.state.State.{State}
use Rattle.shell_world.specs.declared.event.Event.{Event}
use Rattle.shell_world.specs.Happenings.{tells}
use Rattle.shell_world.specs.Keeping.{Always, IsCaused, tells_fault}
use Rattle.shell_world.specs.Processes.{Becomes, Chain, Each, Ends, LacksMemory, MayLack, Process, SaysIf}
use Rattle.shell_world.specs.Scenes.{goes_along, goes_on}
use Rattle.shell_world.specs.Steps.{ReadsWhole, RefusesFile}
use Rattle.shell_world.proofs.Keeping.{Still, becomes_guards, caused_both, caused_fact, chain_leave, either_leave, ends_leave, guarded_caused, guards_fact, knowing_leave, may_lack_leave, reads_still, refuses_leave, row_leave, says_leave, some_leave, still_fact, stores_caused, unread_leave, where_leave}
use Rattle.shell.specs.declared.rows.Command.{Command}
use Rattle.shell.specs.declared.rows.Command.TheVariants as command
use Rattle.shell.specs.declared.script.Script.{Script}
use Rattle.shell.specs.declared.topics.ShellCommand.TheVariants as own
use Rattle.cmd_table.specs.declared.commands.TheConstants.{ECHO, HELP, QUIT, RESET, SOURCE}
use Rattle.shell_world.specs.declared.phase.Phase.TheVariants.{Start}
use Rattle.shell.specs.Echo.{EchoesTo, echo_file, echoed}
use Rattle.shell.specs.Lines.{DoesAny, DoesCommand, DoesCommands, DoesGiven, DoesLine, DoesLineBy, DoesNamed, DoesPieces, DoesScriptLine, DoesWords, LacksScript, RunsScript, ShowsScriptLine, Sourcing, Unless, given_script, script_limit}
use Rattle.text_lines.specs.Lines.{lines_of}
use Rattle.shell.specs.Rows.{command_of}
use Rattle.shell.specs.Topics.{HelpsWith, without_model}
use Rattle.shell.proofs.Refusing.{help_leaves}

-- what the topics below say of their commands
pub record TopicsCause : Type 0 where
  pub settings : (c : SettingsCommand) (words : List (List ℕ)) → Always (DoesSettings c words) IsCaused
  pub log : (c : LogCommand) (words : List (List ℕ)) → Always (DoesLog c words) IsCaused
  pub model : (c : ModelCommand) (words : List (List ℕ)) → Always (DoesModel c words) IsCaused
  pub trace : (c : TraceCommand) (words : List (List ℕ)) → Always (DoesTrace c words) IsCaused

-- two that are caused, one after the other
pub chain_caused : (leads : State → End → Bool) {P Q : Process} → Always P IsCaused → Always Q IsCaused → Always (Chain leads P Q) IsCaused
unfolding Chain
chain_caused leads k l old events end new (inl p) = k old events end new p.first
chain_caused leads k l old events end new (inr p) =
    subst (λ es. IsCaused old es end new) (sym p.joined) (caused_both (k old p.before p.middle p.mid p.first) (l p.mid p.behind end new p.second))

each_caused : {A : Type 0} (leads : State → End → Bool) (does : A → Process) (xs : List A) → ((x : A) → Always (does x) IsCaused) → Always (Each leads does xs) IsCaused
each_caused leads does [] k = ends_leave caused_fact ends.Went refl
each_caused leads does (x ∷ xs) k = chain_caused leads (k x) (each_caused leads does xs k)

pub lacks_memory_caused : Always LacksMemory IsCaused
lacks_memory_caused = says_leave caused_fact _ _ refl refl

echo_caused : (given : Given) (file : Option (List ℕ)) → Always (EchoesTo given file) IsCaused
echo_caused given None = says_leave caused_fact _ _ refl refl
echo_caused given (Some file) = stores_caused file (echoed given)

-- what scripts mean
abbrev pub ScriptsCause : (Script → Process) → Type 0
ScriptsCause nested = (script : Script) → Always (nested script) IsCaused

given_caused : (nested : Script → Process) → ScriptsCause nested → (found : Option Script) → Always (DoesGiven nested found) IsCaused
given_caused nested k None = ends_leave caused_fact ends.Went refl
given_caused nested k (Some script) = k script

named_caused : TopicsCause → (nested : Script → Process) → ScriptsCause nested → (c : Command) (words : List (List ℕ)) → Always (DoesNamed nested c words) IsCaused
named_caused t nested k (command.Settings c) words = t.settings c words
named_caused t nested k (command.Model c) words = t.model c words
named_caused t nested k (command.Trace c) words = t.trace c words
named_caused t nested k (command.Log c) words = t.log c words
named_caused t nested k (command.Shell own.Echo) words = row_leave caused_fact ECHO Start words (λ given. MayLack (EchoesTo given (echo_file given))) (λ given. may_lack_leave caused_fact (echo_caused given (echo_file given)))
named_caused t nested k (command.Shell own.Help) words = λ old events end new p. (row_leave still_fact HELP Start words (λ given. HelpsWith given.rest) (λ given. help_leaves given.rest) old events end new p).caused
named_caused t nested k (command.Shell own.Quit) words = row_leave caused_fact QUIT Start words (λ given. Ends ends.Quits) (λ given. ends_leave caused_fact ends.Quits refl)
named_caused t nested k (command.Shell own.Reset) words = guarded_caused (row_leave guards_fact RESET Start words (λ given. Becomes without_model) (λ given. becomes_guards without_model (λ s. refl)))
named_caused t nested k (command.Shell own.Source) words = row_leave caused_fact SOURCE Start words (λ given. DoesGiven nested (given_script given)) (λ given. given_caused nested k (given_script given))

any_caused : TopicsCause → (nested : Script → Process) → ScriptsCause nested → (found : Option Command) (word : List ℕ) (words : List (List ℕ)) → Always (DoesAny nested found word words) IsCaused
any_caused t nested k (Some c) word words = named_caused t nested k c words
any_caused t nested k None word words = refuses_leave caused_fact _ refl

words_caused : TopicsCause → (nested : Script → Process) → ScriptsCause nested → (answer : Result (List (List ℕ)) LangFault) → Always (DoesWords nested answer) IsCaused
words_caused t nested k (Ok []) = ends_leave caused_fact ends.Went refl
words_caused t nested k (Ok (word ∷ words)) = any_caused t nested k (command_of word) word words
words_caused t nested k (Err fault) = says_leave caused_fact _ _ refl refl

command_caused : TopicsCause → (nested : Script → Process) → ScriptsCause nested → (pieces : List (List Piece)) → Always (DoesCommand nested pieces) IsCaused
command_caused t nested k pieces = may_lack_leave caused_fact (knowing_leave (DoesPieces nested pieces) (λ s. some_leave _ (λ answer. where_leave _ (λ is. words_caused t nested k answer))))

commands_caused : TopicsCause → (nested : Script → Process) → ScriptsCause nested → (answer : Result (List (List (List Piece))) LangFault) → Always (DoesCommands nested answer) IsCaused
commands_caused t nested k (Ok commands) = each_caused goes_along (DoesCommand nested) commands (λ pieces. command_caused t nested k pieces)
commands_caused t nested k (Err fault) = says_leave caused_fact _ _ refl refl

line_by_caused : TopicsCause → (nested : Script → Process) → ScriptsCause nested → (line : List ℕ) → Always (DoesLineBy nested line) IsCaused
line_by_caused t nested k line = either_leave lacks_memory_caused (some_leave _ (λ answer. where_leave _ (λ is. commands_caused t nested k answer)))

pub prompt_caused : (wanted : Bool) (said : Event) → tells_fault (tells said) ≡ false → Always (SaysIf wanted said) IsCaused
prompt_caused true said q = says_leave caused_fact _ _ q refl
prompt_caused false said q = ends_leave caused_fact ends.Went refl

shows_caused : (shows : Bool) (line : List ℕ) → Always (ShowsScriptLine shows line) IsCaused
shows_caused true line = may_lack_leave caused_fact (says_leave caused_fact _ _ refl refl)
shows_caused false line = ends_leave caused_fact ends.Went refl

script_line_caused : (inner : List ℕ → Process) → ((line : List ℕ) → Always (inner line) IsCaused) → (script : Script) (line : List ℕ) → Always (DoesScriptLine inner script line) IsCaused
script_line_caused inner k script line =
    chain_caused goes_along (prompt_caused script.prompts _ refl) (chain_caused goes_along (shows_caused script.shows line) (k line))

-- a script that was not read
lacks_script_caused : (script : Script) (fault : FileFault) → Always (Chain goes_along (ReadsWhole script_limit script.file (Err fault)) (LacksScript script fault)) Still
lacks_script_caused script faults.NotThere = chain_leave still_fact goes_along (reads_still _ _ _) (by_test script.lenient)
  where
    by_test : (t : Bool) → Always (Unless t (RefusesFile script_limit script.file faults.NotThere)) Still
    by_test true = ends_leave still_fact ends.Went refl
    by_test false = refuses_leave still_fact _ refl
lacks_script_caused script (faults.TooLong n) = unread_leave script_limit script.file (faults.TooLong n)
lacks_script_caused script faults.Failed = unread_leave script_limit script.file faults.Failed
lacks_script_caused script (faults.NoMemory e) = unread_leave script_limit script.file (faults.NoMemory e)

script_caused : (inner : List ℕ → Process) → ((line : List ℕ) → Always (inner line) IsCaused) → (script : Script) (answer : Result (List ℕ) FileFault) → Always (Chain goes_along (ReadsWhole script_limit script.file answer) (RunsScript inner script answer)) IsCaused
script_caused inner k script (Ok text) = chain_caused goes_along (λ old events end new p. (reads_still _ _ _ old events end new p).caused) (each_caused goes_on (DoesScriptLine inner script) (lines_of text) (λ line. script_line_caused inner k script line))
script_caused inner k script (Err fault) = λ old events end new p. (lacks_script_caused script fault old events end new p).caused

-- scripts by their depth
pub sourcing_caused : TopicsCause → (depth : ℕ) → ScriptsCause (Sourcing depth)
unfolding Sourcing
sourcing_caused t zero = λ script. says_leave caused_fact _ _ refl refl
sourcing_caused t (suc depth) = λ script. some_leave _ (λ answer. script_caused (λ line. DoesLineBy (Sourcing depth) line) (λ line. line_by_caused t (Sourcing depth) (sourcing_caused t depth) line) script answer)

pub line_caused : TopicsCause → (depth : ℕ) (line : List ℕ) → Always (DoesLine depth line) IsCaused
line_caused t depth line = line_by_caused t (Sourcing depth) (sourcing_caused t depth) line
