-- Which model a text is, and what is said of the text of a trace.
use Rattle.std.specs.Prelude.{◌≡◌, ℕ, List, [], ◌∷◌, length, Some, None, Result, Ok, Err, ⊤}
use Rattle.smv_tree.specs.declared.program.Program.{Program}
use Rattle.smv_tree.specs.Models.{Body, bodies}
use Rattle.smv_parse.specs.FirstForm.{IsFirstForm}
use Rattle.smv_rules.specs.Texts.{ExplainsProgram, SpellsProgram}
use Rattle.bool_replay.specs.declared.load.ModelFault.{ModelFault}
use Rattle.bool_replay.specs.declared.load.ModelFault.TheVariants as fault
use Rattle.bool_replay.specs.declared.verdict.Verdict.{Verdict}
use Rattle.bool_replay.specs.declared.verdict.Verdict.TheVariants.{Executed, Stops, NoValue, NotBuilt}
use Rattle.bool_replay.specs.Plain.{IsPlain, names_of}
use Rattle.bool_replay.specs.TraceTexts.{Section, IsTraceText, first_gap, states_of}
use Rattle.bool_replay.specs.Replays.{IsTrace, StopsAt}

-- The model that a text is, or why it is none: the text's first fault; or that what it spells is not
-- of the form that can be run so far.
abbrev pub ModelOf : List ℕ → Result Program ModelFault → Type 0
ModelOf text (Ok program) = SpellsProgram text (bodies program) × IsFirstForm text × IsPlain (bodies program)
ModelOf text (Err (fault.Text f)) = ExplainsProgram text f
ModelOf text (Err fault.NotBuilt) =
    (program : List Body) × SpellsProgram text program × (IsFirstForm text → IsPlain program → ⊥)
ModelOf text (Err fault.NoMemory) = ⊤

-- what is said of a trace's text: whether it is a run of the program
abbrev pub Judges : List Body → List ℕ → Verdict → Type 0
Judges [] text v = ⊥
Judges (b ∷ others) text (Executed n) =
    (sections : List Section) × IsTraceText (names_of b.parts) text sections
    × (first_gap (names_of b.parts) sections ≡ None) × (n ≡ length sections)
    × IsTrace (b ∷ others) (states_of (names_of b.parts) sections)
Judges (b ∷ others) text (Stops n cause) =
    (sections : List Section) × IsTraceText (names_of b.parts) text sections
    × (first_gap (names_of b.parts) sections ≡ None)
    × StopsAt (b ∷ others) (states_of (names_of b.parts) sections) n cause
Judges (b ∷ others) text (NoValue line name) =
    (sections : List Section) × IsTraceText (names_of b.parts) text sections
    × (first_gap (names_of b.parts) sections ≡ Some (line, name))
Judges (b ∷ others) text NotBuilt =
    (sections : List Section) → IsTraceText (names_of b.parts) text sections → ⊥
