-- What a call answers where it may be refused memory.
use Rattle.std.specs.Prelude.{◌≡◌, ◌≤◌, ℕ, Result, Ok, Err, List, [], ◌∷◌, length, drop}
use Rattle.sat_log_text.specs.Page.{words}
use Rattle.sat_log.specs.declared.line.LogLine.{LogLine}
use Rattle.sat_log_text.specs.declared.fault.LogFault.{LogFault}
use Rattle.sat_log_text.specs.declared.fault.LogFault.TheVariants.{NoMemory}

-- memory was refused
abbrev pub IsNoMemory : LogFault → Type 0
IsNoMemory (NoMemory e) = Unit {0}
IsNoMemory fault = ⊥

-- The answer is this one, unless memory was refused.
abbrev pub IsAnswer : {L : Type 0} → Result L LogFault → Result L LogFault → Type 0
IsAnswer (Ok x) wanted = wanted ≡ Ok x
IsAnswer (Err (NoMemory e)) wanted = Unit {0}
IsAnswer (Err fault) wanted = wanted ≡ Err fault

-- the words behind a blank, if there is one
abbrev pub words_after : List ℕ → List (List ℕ)
words_after [] = []
words_after (b ∷ bytes) = words bytes

-- The answer is these items and what follows the bytes that they take, or this fault, unless memory
-- was refused.
abbrev pub IsAnswerAt : {A : Type 0} → List ℕ → Result (List A × ℕ) LogFault → Result (List A × List (List ℕ)) LogFault → Type 0
IsAnswerAt text (Ok read) wanted = (wanted ≡ Ok (read.0, words_after (drop read.1 text))) × (read.1 ≤ length text)
IsAnswerAt text (Err (NoMemory e)) wanted = Unit {0}
IsAnswerAt text (Err fault) wanted = wanted ≡ Err fault

-- The log is now this one, or the answer is this fault, unless memory was refused.
abbrev pub IsLogAnswer : List LogLine → Result (Unit {0}) LogFault → Result (List LogLine) LogFault → Type 0
IsLogAnswer log (Ok x) wanted = wanted ≡ Ok log
IsLogAnswer log (Err (NoMemory e)) wanted = Unit {0}
IsLogAnswer log (Err fault) wanted = wanted ≡ Err fault
