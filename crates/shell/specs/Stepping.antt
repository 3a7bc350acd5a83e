-- What one line does to a session that the caller keeps, and how a line that is no line ends.
use Rattle.std.specs.Prelude.{◌≡◌, ℕ, List, [], Some}
use Rattle.outside.specs.Told.{Input}
use Rattle.shell_lang.specs.declared.fault.LangFault.{LangFault}
use Rattle.shell_lang.specs.declared.fault.LangFault.TheVariants as language
use Rattle.shell_world.specs.declared.end.End.{End}
use Rattle.shell_world.specs.declared.end.Next.{Next}
use Rattle.shell_world.specs.declared.refusal.Refusal.TheVariants as refusal
use Rattle.shell_world.specs.declared.state.State.{State}
use Rattle.shell_world.specs.Processes.{LacksMemory, Process, Refuses}
use Rattle.shell_world.specs.Scenes.{Told, after, at}
use Rattle.shell_world.specs.Written.{Performs}
use Rattle.shell.specs.Sessions.{DoesInput}

-- an input of which nothing is left
abbrev pub no_input : Input
no_input = record { left = Some []; faults = 0 }

-- a line of input is done, and the session goes on or stops as its end says
abbrev pub StepsLine : Told → State → List ℕ → Next → State → Told → Type 0
StepsLine told old line next new told' =
    (end : End) × Performs (DoesInput line) (at old told) end (at new told')
    × (next ≡ after new end)

-- a fault of a whole line is a refusal, but want of memory ends the session
abbrev pub RefusesLine : LangFault → Process
RefusesLine (language.NoMemory e) = LacksMemory
RefusesLine fault = Refuses (refusal.Language fault)
