-- The texts of what is told of traces.
use Rattle.std.specs.Prelude.{ℕ, List, ◌++◌, codes, decimal}
use Rattle.smv_tree.specs.declared.place.Place.{Place}
use Rattle.bool_replay.specs.declared.verdict.Cause.{Cause}
use Rattle.bool_replay.specs.declared.verdict.Cause.TheVariants.{Init, Trans}
use Rattle.shell_world.specs.declared.trace_event.TraceEvent.{TraceEvent}
use Rattle.shell_world.specs.declared.trace_event.TraceEvent.TheVariants.{Executed, Stops}

-- a word, and a place behind it
abbrev pub at_text : List ℕ → Place → List ℕ
at_text word place = (word ++ decimal place.line ++ codes ":") ++ decimal place.column

-- which constraint a replay stops at, by its section word and place
abbrev pub cause_text : Cause → List ℕ
cause_text (Init place) = at_text (codes "INIT at ") place
cause_text (Trans place) = at_text (codes "TRANS at ") place

abbrev pub cause_line : Cause → List ℕ
cause_line cause = cause_text cause ++ codes "\n"

-- where a trace stops
abbrev pub stop_text : ℕ → Cause → List ℕ
stop_text number cause =
    (codes "-- the trace stops at state " ++ decimal number ++ codes ": ") ++ cause_line cause

abbrev pub trace_text : TraceEvent → List ℕ
trace_text (Executed count) =
    codes "-- the trace is executed, states: " ++ decimal count ++ codes "\n"
trace_text (Stops number cause) = stop_text number cause
