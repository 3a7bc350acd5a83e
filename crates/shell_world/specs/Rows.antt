-- The command of a word, and what the words behind it give by its table in a phase.
use Rattle.std.specs.Prelude.{◌≡◌, ℕ, List, Option, Some, None, Result, Ok, Err, find}
use Rattle.std.specs.Str.{bytes_eq}
use Rattle.cmd_table.specs.declared.fault.OptFault.{OptFault}
use Rattle.cmd_table.specs.declared.given.Given.{Given}
use Rattle.cmd_table.specs.declared.table.Table.{Table}
use Rattle.cmd_table.specs.Options.{Options}
use Rattle.shell_world.specs.declared.refusal.Refusal.{Refusal}
use Rattle.shell_world.specs.declared.refusal.Refusal.TheVariants as refusal
use Rattle.shell_world.specs.declared.phase.Phase.{Phase}
use Rattle.shell_world.specs.declared.state.State.{State}
use Rattle.shell_world.specs.Phases.{lacks}
use Rattle.shell_world.specs.Processes.{ForSome, Knowing, MayLack, Process, Refuses, Where}

-- the command of a word, among these
abbrev pub with_word : {C : Type 0} → (C → List ℕ) → List C → List ℕ → Option C
with_word word_of commands word = find (λ c. bytes_eq (word_of c) word) commands

-- options that were read are given where nothing is lacking; a wrong word is refused before
abbrev pub given_unless : Option Refusal → Result Given OptFault → Result Given Refusal
given_unless lack (Err fault) = Err (refusal.Options fault)
given_unless None (Ok given) = Ok given
given_unless (Some r) (Ok given) = Err r

-- the words give this by the table, in this session, where a phase is needed
abbrev pub Gives : {N : ℕ}
    → Table N → Phase → List (List ℕ) → State → Result Given Refusal → Type 0
Gives table needs words state answer =
    (options : Result Given OptFault) × Options table words options
    × (answer ≡ given_unless (lacks state needs) options)

-- what follows on what is given, if it is not refused
abbrev pub AfterRow : (Given → Process) → Result Given Refusal → Process
AfterRow P (Ok given) = P given
AfterRow P (Err r) = Refuses r

-- the answer to the words of a command, in this session
abbrev pub ByRow : {N : ℕ}
    → Table N → Phase → List (List ℕ) → (Given → Process) → State → Process
ByRow table needs words P state =
    ForSome (λ answer. Where (Gives table needs words state answer) (AfterRow P answer))

-- a command by its table and phase, which are looked at before all else
abbrev pub WithRow : {N : ℕ} → Table N → Phase → List (List ℕ) → (Given → Process) → Process
WithRow table needs words P = MayLack (Knowing (ByRow table needs words P))
