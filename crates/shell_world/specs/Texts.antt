-- What is written of each event, and on which side, one case a topic; and the texts of refusals.
use Rattle.std.specs.Prelude.{ℕ, List, [], ◌∷◌, ◌++◌, codes, decimal, flat_map}
use Rattle.outside.specs.Lines.{fault_number, fault_text}
use Rattle.cmd_table.specs.Fault as options
use Rattle.shell_lang.specs.Fault as language
use Rattle.smv_grammar.specs.Faults as models
use Rattle.sat_log_text.specs.FaultText as logs
use Rattle.shell_world.specs.declared.event.Event.{Event}
use Rattle.shell_world.specs.declared.event.Event.TheVariants as event
use Rattle.shell_world.specs.declared.event.Side.{Side}
use Rattle.shell_world.specs.declared.event.Side.TheVariants.{Output, Errors}
use Rattle.shell_world.specs.declared.refusal.Refusal.{Refusal}
use Rattle.shell_world.specs.declared.refusal.Refusal.TheVariants as refusal
use Rattle.shell_world.specs.LogTexts.{log_text}
use Rattle.shell_world.specs.Phases.{phase_word}
use Rattle.shell_world.specs.SettingsTexts.{settings_text}
use Rattle.shell_world.specs.ShellTexts.{shell_side, shell_text}
use Rattle.shell_world.specs.TraceTexts.{trace_text}

-- words with a blank between any two
abbrev pub joined : List (List ℕ) → List ℕ
joined [] = []
joined (word ∷ words) = word ++ flat_map (λ other. 32 ∷ other) words

-- a file that is longer than its limit
abbrev pub long_text : List ℕ → ℕ → List ℕ
long_text name limit = name ++ (codes ": longer than " ++ decimal limit ++ codes " bytes")

-- the number of a refusal
abbrev pub refusal_number : Refusal → ℕ
refusal_number (refusal.Options fault) = options.number_of fault
refusal_number (refusal.Language fault) = language.number_of fault
refusal_number (refusal.Line fault) = fault_number fault
refusal_number (refusal.Model fault) = models.number_of fault
refusal_number (refusal.Log fault) = logs.fault_number fault
refusal_number (refusal.NoValue line name) = 616
refusal_number refusal.TooDeep = 634
refusal_number (refusal.NoCommand word) = 641
refusal_number refusal.NoModel = 642
refusal_number refusal.ModelIsThere = 643
refusal_number (refusal.MustComeFirst phase) = 644
refusal_number (refusal.NoFile name) = 646
refusal_number (refusal.FileFault name) = 647
refusal_number (refusal.FileTooLong name limit) = 648
refusal_number refusal.TooManyLines = 803
refusal_number refusal.NotBuilt = 899
refusal_number refusal.NoMemory = 900

-- a section of a trace lacks a value
abbrev pub no_value_text : ℕ → List ℕ → List ℕ
no_value_text line name = (codes "line " ++ decimal line ++ codes ": no value for ") ++ name

-- what is said after the number
abbrev pub refusal_said : Refusal → List ℕ
refusal_said (refusal.Options fault) = options.text_of fault
refusal_said (refusal.Language fault) = language.text_of fault
refusal_said (refusal.Line fault) = fault_text fault
refusal_said (refusal.Model fault) = models.fault_text fault
refusal_said (refusal.Log fault) = logs.fault_text fault
refusal_said (refusal.NoValue line name) = no_value_text line name
refusal_said refusal.TooDeep = codes "more than 16 scripts are nested"
refusal_said (refusal.NoCommand word) = word ++ codes " is no command"
refusal_said refusal.NoModel = codes "no model"
refusal_said refusal.ModelIsThere = codes "a model is already there"
refusal_said (refusal.MustComeFirst phase) = phase_word phase ++ codes " must come first"
refusal_said (refusal.NoFile name) = name ++ codes ": no such file"
refusal_said (refusal.FileFault name) = name ++ codes ": file fault"
refusal_said (refusal.FileTooLong name limit) = long_text name limit
refusal_said refusal.TooManyLines = codes "more than 1000000 lines"
refusal_said refusal.NotBuilt = codes "not built yet"
refusal_said refusal.NoMemory = codes "out of memory"

-- the line of a refusal
abbrev pub refusal_text : Refusal → List ℕ
refusal_text r =
    codes "error " ++ decimal (refusal_number r) ++ codes ": " ++ refusal_said r ++ codes "\n"

-- what is written of an event
abbrev pub text_of : Event → List ℕ
text_of (event.Shell e) = shell_text e
text_of (event.Settings e) = settings_text e
text_of (event.Log e) = log_text e
text_of (event.Trace e) = trace_text e
text_of (event.Refused r) = refusal_text r
text_of event.Usage = codes "usage: nusat [-int] [-source file] [model.smv] | nusat -gen n\n"

-- the side that it is written on
abbrev pub side_of : Event → Side
side_of (event.Shell e) = shell_side e
side_of (event.Settings e) = Output
side_of (event.Log e) = Output
side_of (event.Trace e) = Output
side_of (event.Refused r) = Errors
side_of event.Usage = Errors

-- what of an event's text stands on a side
abbrev pub text_if : Side → Side → List ℕ → List ℕ
text_if Output Output text = text
text_if Output Errors text = []
text_if Errors Output text = []
text_if Errors Errors text = text
