-- What a read of a line finds, and what it takes.
use Rattle.std.specs.Prelude.{◌≡◌, ◌≢◌, ◌+◌, ◌≤◌, ℕ, List, [], ◌∷◌, ◌++◌, ◌⊎◌, codes, length, Option, Result, Ok, Err, IfSome, Contains}
use Rattle.std.specs.Io.KnownBytes.{prepend_known}
use Rattle.outside.specs.declared.source.Line.{Line}
use Rattle.outside.specs.declared.source.Line.TheVariants as line
use Rattle.outside.specs.declared.source.LineFault.{LineFault}
use Rattle.outside.specs.declared.source.LineFault.TheVariants.{ReadFault, TooLong, NoMemory}
use Rattle.outside.specs.Told.{HasRisen, Input}

-- no line feed stands in the text
abbrev pub IsOneLine : List ℕ → Type 0
IsOneLine text = Contains text 10 → ⊥

-- bytes without a line feed were taken, at most so many
abbrev pub TakesFront : ℕ → Option (List ℕ) → Option (List ℕ) → Type 0
TakesFront most before after = (front : List ℕ) × IsOneLine front × (length front ≤ most) × (before ≡ prepend_known front after)

-- a line and its line feed were taken, or a last line that has none
abbrev pub TakesLine : Option (List ℕ) → List ℕ → Option (List ℕ) → Type 0
TakesLine before text after =
    (before ≡ prepend_known (text ++ 10 ∷ []) after)
    ⊎ ((text ≢ []) × (before ≡ prepend_known text after) × IfSome after (λ rest. rest ≡ []))

-- what a read of a line of at most so many bytes answers, and what is left then
abbrev pub Reads : ℕ → Option (List ℕ) → Result Line LineFault → Option (List ℕ) → Type 0
Reads limit before (Ok line.End) after = (after ≡ before) × IfSome before (λ bytes. bytes ≡ [])
Reads limit before (Ok (line.Line text)) after = IsOneLine text × (length text ≤ limit) × TakesLine before text after
Reads limit before (Err TooLong) after = (front : List ℕ) × IsOneLine front × (length front ≡ limit + 1) × (before ≡ prepend_known front after)
Reads limit before (Err ReadFault) after = TakesFront limit before after
Reads limit before (Err (NoMemory e)) after = TakesFront limit before after

-- a fault of the source is answered, and nothing else is answered after one
abbrev pub HasCause : ℕ → ℕ → Result Line LineFault → Type 0
HasCause before after (Err ReadFault) = HasRisen before after
HasCause before after _ = after ≡ before

-- what a read of a line of at most so many bytes answers and leaves, and why it failed
pub record ReadsLine (limit : ℕ) (old : Input) (result : Result Line LineFault) (new : Input) : Type 0 where
  pub reads : Reads limit old.left result new.left
  pub cause : HasCause old.faults new.faults result

-- the number of a refusal of a line that was not read
abbrev pub fault_number : LineFault → ℕ
fault_number ReadFault = 801
fault_number TooLong = 802
fault_number (NoMemory e) = 900

-- what users read after the number
abbrev pub fault_text : LineFault → List ℕ
fault_text ReadFault = codes "the input failed"
fault_text TooLong = codes "line longer than 65536 bytes"
fault_text (NoMemory e) = codes "out of memory"
