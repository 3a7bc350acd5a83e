-- The command that reads the model.
use Rattle.std.specs.Prelude.{ℕ, List, Option, Some, None, Result, Ok, Err, codes}
use Rattle.std.specs.Option.{option_or}
use Rattle.cmd_table.specs.declared.fault.OptFault.TheVariants.{Required}
use Rattle.cmd_table.specs.declared.given.Given.{Given}
use Rattle.cmd_table.specs.Options.{value_at}
use Rattle.shell_lang.specs.Keyed.{at_name, with_name}
use Rattle.smv_tree.specs.declared.program.Program.{Program}
use Rattle.bool_replay.specs.declared.load.ModelFault.{ModelFault}
use Rattle.bool_replay.specs.declared.load.ModelFault.TheVariants as fault
use Rattle.bool_replay.specs.Verdicts.{ModelOf}
use Rattle.shell_world.specs.declared.phase.Phase.TheVariants.{Read, Start}
use Rattle.shell_world.specs.declared.refusal.Refusal.{Refusal}
use Rattle.shell_world.specs.declared.refusal.Refusal.TheVariants as refusal
use Rattle.shell_world.specs.declared.state.State.{State}
use Rattle.shell_world.specs.Scenes.{no_work}
use Rattle.shell_world.specs.Processes.{Becomes, ForSome, Knowing, MayLack, Process, Refuses, Where}
use Rattle.shell_world.specs.Steps.{WithFile}
use Rattle.shell_world.specs.Rows.{WithRow}
use Rattle.shell_model.specs.declared.model_commands.ModelCommand.{ModelCommand}
use Rattle.shell_model.specs.declared.model_commands.ModelCommand.TheVariants as command
use Rattle.cmd_table.specs.declared.commands.TheConstants.{READ_MODEL}

-- the word that a command is called by
abbrev pub model_word : ModelCommand → List ℕ
model_word command.ReadModel = codes "read_model"

-- the command as a user writes it
abbrev pub model_help : ModelCommand → List ℕ
model_help command.ReadModel = codes "read_model [-i file]"

-- a model has at most so many bytes
abbrev pub model_limit : ℕ
model_limit = 4194304

-- the file that the variable names
abbrev pub input_file : State → Option (List ℕ)
input_file state = at_name state.vars (codes "input_file")

-- the session keeps this model, which was read, and of which nothing is worked out
abbrev pub with_model : Program → State → State
with_model program state = record state { model = Some program; done = Read; work = no_work }

-- the same, and the variable names its file
abbrev pub with_read : List ℕ → Program → State → State
with_read file program state =
    record (with_model program state) { vars = with_name state.vars (codes "input_file") file }

-- what is said of a text that is no model
abbrev pub model_refusal : ModelFault → Refusal
model_refusal (fault.Text f) = refusal.Model f
model_refusal fault.NotBuilt = refusal.NotBuilt
model_refusal fault.NoMemory = refusal.NoMemory

-- the model that a text is, is kept, or the text is refused
abbrev pub KeepsRead : List ℕ → Result Program ModelFault → Process
KeepsRead file (Ok program) = MayLack (Becomes (with_read file program))
KeepsRead file (Err f) = Refuses (model_refusal f)

abbrev pub TakesText : List ℕ → List ℕ → Process
TakesText file text = ForSome (λ answer. Where (ModelOf text answer) (KeepsRead file answer))

-- a second model is refused before its file is looked at
abbrev pub ReadsModel : List ℕ → Option Program → Process
ReadsModel file (Some program) = Refuses refusal.ModelIsThere
ReadsModel file None = WithFile model_limit file (TakesText file)

abbrev pub ReadsNamed : Option (List ℕ) → State → Process
ReadsNamed None state = MayLack (Refuses (refusal.Options (Required (codes "-i"))))
ReadsNamed (Some file) state = ReadsModel file state.model

-- the file is that of the option `-i`, or else that of the variable
abbrev pub ReadsBy : Option (List ℕ) → Process
ReadsBy given = Knowing (λ state. ReadsNamed (option_or given (input_file state)) state)

-- the file that `-i` names
abbrev pub named_by : Given → Option (List ℕ)
named_by given = value_at given.values 0

-- the command `read_model`
abbrev pub DoesReadModel : List (List ℕ) → Process
DoesReadModel words = WithRow READ_MODEL Start words (λ given. MayLack (ReadsBy (named_by given)))

-- a command of this topic, one case each
abbrev pub DoesModel : ModelCommand → List (List ℕ) → Process
DoesModel command.ReadModel words = DoesReadModel words
