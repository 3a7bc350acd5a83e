-- The commands of a line.
use Rattle.std.specs.Prelude.{◌≡◌, ℕ, ◌+◌, Bool, true, false, ◌==◌, nat_lt, List, [], ◌∷◌, length, take, drop, map, Option, Some, None, Result, Ok, Err, if◌then◌else◌}
use Rattle.std.specs.List.{prefix_len}
use Rattle.std.specs.Option.{option_map}
use Rattle.shell_lang.specs.Bytes.{is_name_byte, is_plain, is_quoted}
use Rattle.text_lines.specs.Lines.{is_blank}
use Rattle.shell_lang.specs.declared.fault.LangFault.{LangFault}
use Rattle.shell_lang.specs.declared.fault.LangFault.TheVariants.{Quote}
use Rattle.shell_lang.specs.declared.line.Piece.{Piece}
use Rattle.shell_lang.specs.declared.line.Piece.TheVariants.{Plain, Var}
use Rattle.shell_lang.specs.declared.mark.Mark.{Mark}
use Rattle.shell_lang.specs.declared.mark.Mark.TheVariants.{Part, Gap, End}

-- how a line goes on: it is over, or a comment begins; a quote is not closed; or a mark, and the rest of the line
pub data Start : Type 0 where
  over : Start
  unclosed : Start
  begins : Mark → List ℕ → Start

-- after a `"`: the text up to the next `"` is a part of a word, and nothing in it is special
abbrev pub start_quoted : List ℕ → Start
start_quoted rest =
    if nat_lt (prefix_len is_quoted rest) (length rest) then
    begins (Part (Plain (take (prefix_len is_quoted rest) rest))) (drop (prefix_len is_quoted rest + 1) rest)
    else unclosed

-- after a `$`: the longest name that stands there, and a `$` with no name stands for itself
abbrev pub start_dollar : List ℕ → Start
start_dollar rest =
    if prefix_len is_name_byte rest == 0 then begins (Part (Plain (36 ∷ []))) rest
    else begins (Part (Var (take (prefix_len is_name_byte rest) rest))) (drop (prefix_len is_name_byte rest) rest)

-- the longest plain text that the line begins with
abbrev pub start_plain : List ℕ → Start
start_plain line = begins (Part (Plain (take (prefix_len is_plain line) line))) (drop (prefix_len is_plain line) line)

-- how a line begins
abbrev pub start_of : List ℕ → Start
start_of [] = over
start_of (byte ∷ rest) =
    if byte == 35 then over
    else (if byte == 34 then start_quoted rest
    else (if byte == 36 then start_dollar rest
    else (if byte == 59 then begins End rest
    else (if is_blank byte then begins Gap rest else start_plain (byte ∷ rest)))))

-- a line reads as marks, or as none where a quote is not closed
pub data Reads : List ℕ → Option (List Mark) → Type 0 where
  ends : (line : List ℕ) → start_of line ≡ over → Reads line (Some [])
  fails : (line : List ℕ) → start_of line ≡ unclosed → Reads line None
  goes : (line rest : List ℕ) (mark : Mark) (marks : Option (List Mark)) → start_of line ≡ begins mark rest → Reads rest marks → Reads line (option_map (λ more. mark ∷ more) marks)

-- the lists that are not empty
abbrev pub not_empty : {A : Type 0} → List (List A) → List (List A)
not_empty [] = []
not_empty ([] ∷ lists) = not_empty lists
not_empty ((x ∷ xs) ∷ lists) = (x ∷ xs) ∷ not_empty lists

-- the first part of a list and the others, where some elements part it
abbrev pub parted : {A : Type 0} → (A → Bool) → List A → List A × List (List A)
parted parts [] = ([], [])
parted parts (x ∷ xs) =
    let more = parted parts xs in
    if parts x then ([], more.0 ∷ more.1) else (x ∷ more.0, more.1)

-- all parts of a list
abbrev pub parts_of : {A : Type 0} → (A → Bool) → List A → List (List A)
parts_of parts xs = (parted parts xs).0 ∷ (parted parts xs).1

-- words are parted by gaps, commands by ends
abbrev pub is_gap : Mark → Bool
is_gap (Part piece) = false
is_gap Gap = true
is_gap End = false

abbrev pub is_end : Mark → Bool
is_end (Part piece) = false
is_end Gap = false
is_end End = true

-- the pieces among marks
abbrev pub pieces_of : List Mark → List Piece
pieces_of [] = []
pieces_of (Part piece ∷ marks) = piece ∷ pieces_of marks
pieces_of (Gap ∷ marks) = pieces_of marks
pieces_of (End ∷ marks) = pieces_of marks

-- the words of a command: its marks are parted by gaps, and a word has at least one piece
abbrev pub words_of : List Mark → List (List Piece)
words_of marks = not_empty (map pieces_of (parts_of is_gap marks))

-- the commands of a line: its marks are parted by ends, and a command has at least one word
abbrev pub commands_of : List Mark → List (List (List Piece))
commands_of marks = not_empty (map words_of (parts_of is_end marks))

-- what splitting a line answers, by the marks that the line reads as
abbrev pub answer_of : Option (List Mark) → Result (List (List (List Piece))) LangFault
answer_of None = Err Quote
answer_of (Some marks) = Ok (commands_of marks)

-- splitting a line gives this answer
abbrev pub Splits : List ℕ → Result (List (List (List Piece))) LangFault → Type 0
Splits line answer = (marks : Option (List Mark)) × Reads line marks × (answer_of marks ≡ answer)
