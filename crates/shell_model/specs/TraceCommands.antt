-- The command that executes a trace on the model.
use Rattle.std.specs.Prelude.{ℕ, Bool, true, false, List, Option, Some, None, Result, Ok, Err, codes}
use Rattle.cmd_table.specs.declared.given.Given.{Given}
use Rattle.cmd_table.specs.Options.{is_given}
use Rattle.smv_tree.specs.declared.program.Program.{Program}
use Rattle.smv_tree.specs.Models.{bodies}
use Rattle.bool_replay.specs.declared.load.ModelFault.{ModelFault}
use Rattle.bool_replay.specs.declared.verdict.Verdict.{Verdict}
use Rattle.bool_replay.specs.declared.verdict.Verdict.TheVariants as verdict
use Rattle.bool_replay.specs.Verdicts.{Judges, ModelOf}
use Rattle.shell_world.specs.declared.event.Event.TheVariants.{Trace}
use Rattle.shell_world.specs.declared.trace_event.TraceEvent.TheVariants.{Executed, Stops}
use Rattle.shell_world.specs.declared.phase.Phase.TheVariants.{Start}
use Rattle.shell_world.specs.declared.refusal.Refusal.TheVariants as refusal
use Rattle.shell_world.specs.declared.state.State.{State}
use Rattle.shell_world.specs.Processes.{Becomes, ForSome, Knowing, MayLack, Process, Refuses, Says, Then, Where}
use Rattle.shell_world.specs.Steps.{WithFile, WithFirst}
use Rattle.shell_world.specs.Rows.{WithRow}
use Rattle.shell_model.specs.ModelCommands.{input_file, model_limit, model_refusal, with_model}
use Rattle.shell_model.specs.declared.trace_commands.TraceCommand.{TraceCommand}
use Rattle.shell_model.specs.declared.trace_commands.TraceCommand.TheVariants as command
use Rattle.cmd_table.specs.declared.commands.TheConstants.{EXECUTE_TEXT_TRACE}

-- the word that a command is called by
abbrev pub trace_word : TraceCommand → List ℕ
trace_word command.ExecuteTextTrace = codes "execute_text_trace"

-- the command as a user writes it
abbrev pub trace_help : TraceCommand → List ℕ
trace_help command.ExecuteTextTrace = codes "execute_text_trace [-c] file"

-- a trace has at most so many bytes
abbrev pub trace_limit : ℕ
trace_limit = 4194304

abbrev pub TellsVerdict : Verdict → Process
TellsVerdict (verdict.Executed n) = Says (Trace (Executed n))
TellsVerdict (verdict.Stops n cause) = Says (Trace (Stops n cause))
TellsVerdict (verdict.NoValue line name) = Refuses (refusal.NoValue line name)
TellsVerdict verdict.NotBuilt = Refuses refusal.NotBuilt

-- what is said of the text of a trace; one of changes alone is not of the form that is read so far
abbrev pub JudgesText : Bool → Program → List ℕ → Process
JudgesText true program text = Refuses refusal.NotBuilt
JudgesText false program text =
    MayLack (ForSome (λ answer. Where (Judges (bodies program) text answer) (TellsVerdict answer)))

abbrev pub JudgesFile : Bool → Program → List ℕ → Process
JudgesFile changes program name = WithFile trace_limit name (JudgesText changes program)

-- a model that is read for a trace is kept once the trace is not refused
abbrev pub ExecutesOn : Bool → List ℕ → Result Program ModelFault → Process
ExecutesOn changes name (Ok program) =
    Then (JudgesFile changes program name) (Becomes (with_model program))
ExecutesOn changes name (Err f) = Refuses (model_refusal f)

abbrev pub ExecutesOnText : Bool → List ℕ → List ℕ → Process
ExecutesOnText changes name text =
    ForSome (λ answer. Where (ModelOf text answer) (ExecutesOn changes name answer))

abbrev pub ExecutesFrom : Bool → List ℕ → Option (List ℕ) → Process
ExecutesFrom changes name None = Refuses refusal.NoModel
ExecutesFrom changes name (Some file) = WithFile model_limit file (ExecutesOnText changes name)

-- the trace is executed on the model that is kept, or else on the one of the variable's file
abbrev pub ExecutesWith : Bool → List ℕ → Option Program → State → Process
ExecutesWith changes name (Some program) state = JudgesFile changes program name
ExecutesWith changes name None state = MayLack (ExecutesFrom changes name (input_file state))

abbrev pub Executes : Bool → List ℕ → Process
Executes changes name = Knowing (λ state. ExecutesWith changes name state.model state)

-- `-c` says that the trace has changes alone
abbrev pub has_changes : Given → Bool
has_changes given = is_given given 0

-- the command `execute_text_trace`
abbrev pub DoesExecute : List (List ℕ) → Process
DoesExecute words =
    WithRow EXECUTE_TEXT_TRACE Start words
    (λ given. WithFirst (Executes (has_changes given)) given.rest)

-- a command of this topic, one case each
abbrev pub DoesTrace : TraceCommand → List (List ℕ) → Process
DoesTrace command.ExecuteTextTrace words = DoesExecute words
