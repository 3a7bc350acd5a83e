-- How commands grow as marks are read. These are steps of the proof that the commands are those of
-- all marks; no public clause cites them.
use Rattle.std.specs.Prelude.{◌≡◌, ◌↔◌, ℕ, List, [], ◌∷◌, ◌++◌, Option, Some, None, Result, Ok, Err}
use Rattle.shell_lang.specs.declared.fault.LangFault.{LangFault}
use Rattle.shell_lang.specs.declared.fault.LangFault.TheVariants.{Quote}
use Rattle.shell_lang.specs.Lines.{Reads, Splits}
use Rattle.shell_lang.specs.declared.line.Piece.{Piece}
use Rattle.shell_lang.specs.declared.mark.Mark.{Mark}
use Rattle.shell_lang.specs.declared.mark.Mark.TheVariants.{Part, Gap, End}
use Rattle.shell_lang.specs.declared.builder.Builder.{Builder}

-- the list as the one element of a list, unless it is empty
abbrev pub kept : {A : Type 0} → List A → List (List A)
kept [] = []
kept (x ∷ xs) = (x ∷ xs) ∷ []

-- the commands of the marks, after words and pieces of a command that is not ended
abbrev pub from_open : List (List Piece) → List Piece → List Mark → List (List (List Piece))
from_open words pieces [] = kept (words ++ kept pieces)
from_open words pieces (Part piece ∷ marks) = from_open words (pieces ++ piece ∷ []) marks
from_open words pieces (Gap ∷ marks) = from_open (words ++ kept pieces) [] marks
from_open words pieces (End ∷ marks) = kept (words ++ kept pieces) ++ from_open [] [] marks

-- all commands, where these marks follow
abbrev pub with_marks : Builder → List Mark → List (List (List Piece))
with_marks builder marks = builder.commands.items ++ from_open builder.words.items builder.pieces.items marks

-- what splitting a line answers, where these marks follow those that were read
abbrev pub answer_from : Builder → Option (List Mark) → Result (List (List (List Piece))) LangFault
answer_from builder None = Err Quote
answer_from builder (Some marks) = Ok (with_marks builder marks)

-- the same, where the rest of the line follows
abbrev pub SplitsOn : Builder → List ℕ → Result (List (List (List Piece))) LangFault → Type 0
SplitsOn builder rest answer = (marks : Option (List Mark)) × Reads rest marks × (answer_from builder marks ≡ answer)

-- what the rest of the line gives is what the line gives
abbrev pub GoesOn : List ℕ → Builder → List ℕ → Type 0
GoesOn line builder rest =
    (answer : Result (List (List (List Piece))) LangFault) → SplitsOn builder rest answer ↔ Splits line answer
