-- The commands of the model, of traces and of the log leave the remembered lines as they were, and all where they are refused.
use Rattle.std.proofs.Common.{◌≡◌, ℕ, Bool, true, false, List, refl}
use Rattle.std.specs.Prelude.{Option, None, Some, Result, Ok, Err}
use Rattle.std.specs.Option.{option_or}
use Rattle.shell_model.specs.declared.log_commands.LogCommand.{LogCommand}
use Rattle.shell_model.specs.declared.log_commands.LogCommand.TheVariants as log_command
use Rattle.cmd_table.specs.declared.commands.TheConstants.{CHECK_LOG}
use Rattle.shell_world.specs.declared.phase.Phase.TheVariants.{Start}
use Rattle.shell_model.specs.declared.model_commands.ModelCommand.{ModelCommand}
use Rattle.shell_model.specs.declared.model_commands.ModelCommand.TheVariants as model_command
use Rattle.cmd_table.specs.declared.commands.TheConstants.{READ_MODEL}
use Rattle.shell_model.specs.declared.trace_commands.TraceCommand.{TraceCommand}
use Rattle.shell_model.specs.declared.trace_commands.TraceCommand.TheVariants as trace_command
use Rattle.cmd_table.specs.declared.commands.TheConstants.{EXECUTE_TEXT_TRACE}
use Rattle.sat_log_text.specs.declared.fault.LogFault.{LogFault}
use Rattle.smv_tree.specs.declared.program.Program.{Program}
use Rattle.bool_replay.specs.declared.load.ModelFault.{ModelFault}
use Rattle.bool_replay.specs.declared.load.ModelFault.TheVariants as model_fault
use Rattle.bool_replay.specs.declared.verdict.Verdict.{Verdict}
use Rattle.bool_replay.specs.declared.verdict.Verdict.TheVariants as verdict
use Rattle.shell_world.specs.declared.event.Event.TheVariants as event
use Rattle.shell_world.specs.declared.log_event.LogEvent.{LogEvent}
use Rattle.shell_world.specs.declared.state.State.{State}
use Rattle.shell_world.specs.Happenings.{tells}
use Rattle.shell_world.specs.Processes.{MayLack}
use Rattle.shell_world.specs.Scenes.{goes_along}
use Rattle.shell_world.specs.Steps.{WithFirst}
use Rattle.shell_model.specs.LogCommands.{ChecksFile, ChecksText, DoesLog, TellsLog, log_limit}
use Rattle.shell_model.specs.ModelCommands.{DoesModel, KeepsRead, ReadsBy, ReadsModel, ReadsNamed, TakesText, input_file, model_limit, model_refusal, named_by, with_model, with_read}
use Rattle.shell_model.specs.TraceCommands.{DoesTrace, Executes, ExecutesFrom, ExecutesOn, ExecutesOnText, ExecutesWith, JudgesFile, JudgesText, TellsVerdict, has_changes, trace_limit}
use Rattle.shell_world.specs.Keeping.{Always, tells_fault}
use Rattle.shell_world.proofs.Keeping.{Guards, Still, becomes_guards, chain_leave, file_leave, first_leave, guards_fact, knowing_leave, may_lack_leave, refuses_leave, row_leave, says_leave, some_leave, still_fact, where_leave}

-- a log that is checked
log_leaves : (answer : Result LogEvent LogFault) → Always (TellsLog answer) Guards
log_leaves (Ok said) = says_leave guards_fact _ _ refl refl
log_leaves (Err fault) = says_leave guards_fact _ _ refl refl

checks_leave : (text : List ℕ) → Always (ChecksText text) Guards
checks_leave text = may_lack_leave guards_fact (some_leave _ (λ answer. where_leave _ (λ is. log_leaves answer)))

pub log_guards : (c : LogCommand) (words : List (List ℕ)) → Always (DoesLog c words) Guards
log_guards log_command.CheckLog words = row_leave guards_fact CHECK_LOG Start words (λ given. WithFirst ChecksFile given.rest) (λ given. first_leave guards_fact ChecksFile given.rest (λ name. file_leave guards_fact log_limit name ChecksText checks_leave))

-- a text that is no model is no fault of the outside
model_quiet : (f : ModelFault) → tells_fault (tells (event.Refused (model_refusal f))) ≡ false
model_quiet (model_fault.Text f) = refl
model_quiet model_fault.NotBuilt = refl
model_quiet model_fault.NoMemory = refl

-- a model that is read
read_guards : (file : List ℕ) (answer : Result Program ModelFault) → Always (KeepsRead file answer) Guards
read_guards file (Ok program) = may_lack_leave guards_fact (becomes_guards (with_read file program) (λ s. refl))
read_guards file (Err fault) = says_leave guards_fact _ _ (model_quiet fault) refl

reads_guard : (file : List ℕ) (there : Option Program) → Always (ReadsModel file there) Guards
reads_guard file (Some program) = says_leave guards_fact _ _ refl refl
reads_guard file None = file_leave guards_fact model_limit file (TakesText file) (λ text. some_leave _ (λ answer. where_leave _ (λ is. read_guards file answer)))

named_guards : (file : Option (List ℕ)) (state : State) → Always (ReadsNamed file state) Guards
named_guards None state = refuses_leave guards_fact _ refl
named_guards (Some file) state = reads_guard file state.model

pub model_guards : (c : ModelCommand) (words : List (List ℕ)) → Always (DoesModel c words) Guards
model_guards model_command.ReadModel words =
    row_leave guards_fact READ_MODEL Start words (λ given. MayLack (ReadsBy (named_by given)))
    (λ given. may_lack_leave guards_fact (knowing_leave _ (λ state. named_guards (option_or (named_by given) (input_file state)) state)))

-- a trace that is executed
verdict_leaves : (v : Verdict) → Always (TellsVerdict v) Still
verdict_leaves (verdict.Executed n) = says_leave still_fact _ _ refl refl
verdict_leaves (verdict.Stops n cause) = says_leave still_fact _ _ refl refl
verdict_leaves (verdict.NoValue line name) = says_leave still_fact _ _ refl refl
verdict_leaves verdict.NotBuilt = says_leave still_fact _ _ refl refl

text_leaves : (changes : Bool) (program : Program) (text : List ℕ) → Always (JudgesText changes program text) Still
text_leaves true program text = says_leave still_fact _ _ refl refl
text_leaves false program text = may_lack_leave still_fact (some_leave _ (λ v. where_leave _ (λ is. verdict_leaves v)))

judging_leaves : (changes : Bool) (program : Program) (name : List ℕ) → Always (JudgesFile changes program name) Still
judging_leaves changes program name = file_leave still_fact trace_limit name (JudgesText changes program) (text_leaves changes program)

on_guards : (changes : Bool) (name : List ℕ) (answer : Result Program ModelFault) → Always (ExecutesOn changes name answer) Guards
on_guards changes name (Ok program) = chain_leave guards_fact goes_along (judging_leaves changes program name) (becomes_guards (with_model program) (λ s. refl))
on_guards changes name (Err fault) = says_leave guards_fact _ _ (model_quiet fault) refl

from_guards : (changes : Bool) (name : List ℕ) (file : Option (List ℕ)) → Always (ExecutesFrom changes name file) Guards
from_guards changes name None = says_leave guards_fact _ _ refl refl
from_guards changes name (Some file) = file_leave guards_fact model_limit file (ExecutesOnText changes name) (λ text. some_leave _ (λ answer. where_leave _ (λ is. on_guards changes name answer)))

with_guards : (changes : Bool) (name : List ℕ) (there : Option Program) (state : State) → Always (ExecutesWith changes name there state) Guards
with_guards changes name (Some program) state = λ old events end new p. guards_fact.still old events end new (judging_leaves changes program name old events end new p)
with_guards changes name None state = may_lack_leave guards_fact (from_guards changes name (input_file state))

executes_guards : (changes : Bool) (name : List ℕ) → Always (Executes changes name) Guards
executes_guards changes name = knowing_leave _ (λ state. with_guards changes name state.model state)

pub trace_guards : (c : TraceCommand) (words : List (List ℕ)) → Always (DoesTrace c words) Guards
trace_guards trace_command.ExecuteTextTrace words = row_leave guards_fact EXECUTE_TEXT_TRACE Start words (λ given. WithFirst (Executes (has_changes given)) given.rest) (λ given. first_leave guards_fact (Executes (has_changes given)) given.rest (executes_guards (has_changes given)))
