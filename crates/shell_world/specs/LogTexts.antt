-- The text of what is told of a log.
use Rattle.std.specs.Prelude.{ℕ, List, ◌++◌, codes, decimal}
use Rattle.shell_world.specs.declared.log_event.LogEvent.{LogEvent}

-- a number that ends its line
abbrev pub ended_text : ℕ → List ℕ
ended_text number = decimal number ++ codes "\n"

-- a log is accepted
abbrev pub accepted_text : ℕ → ℕ → List ℕ
accepted_text given others =
    (codes "-- the log is accepted, originals: " ++ decimal given ++ codes ", lines: ")
    ++ ended_text others

abbrev pub log_text : LogEvent → List ℕ
log_text e = accepted_text e.originals e.others
