-- What is printed of a fault of a log.
use Rattle.std.specs.Prelude.{ℕ, List, ◌++◌, codes, decimal}
use Rattle.sat_log_text.specs.declared.fault.LogFault.{LogFault}
use Rattle.sat_log_text.specs.declared.fault.LogFault.TheVariants.{BadNumber, MissingZero, BadHint, NotAccepted, Truncated, NoMemory}

abbrev pub fault_text : LogFault → List ℕ
fault_text (BadNumber line) = codes "line " ++ decimal line ++ codes ": bad number or word"
fault_text (MissingZero line) = codes "line " ++ decimal line ++ codes ": missing 0"
fault_text (BadHint line) = codes "line " ++ decimal line ++ codes ": hint to no earlier clause"
fault_text (NotAccepted id) = codes "clause " ++ decimal id ++ codes " is not accepted"
fault_text Truncated = codes "the log ends too early"
fault_text (NoMemory e) = codes "out of memory"

-- the number under which a fault is known
abbrev pub fault_number : LogFault → ℕ
fault_number (BadNumber line) = 501
fault_number (MissingZero line) = 502
fault_number (BadHint line) = 503
fault_number (NotAccepted id) = 504
fault_number Truncated = 505
fault_number (NoMemory e) = 900
