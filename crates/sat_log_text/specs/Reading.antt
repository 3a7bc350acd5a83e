-- How a text is read, as functions on lists: the code equals them, and they lead to TextFault.
use Rattle.std.specs.Prelude.{◌==◌, ◌+◌, ◌^◌, ◌&&◌, ℕ, Bool, true, false, not, if◌then◌else◌, nat_lt, Option, Some, None, Result, Ok, Err, is_some, List, [], ◌∷◌, ◌++◌, length, codes, decimal}
use Rattle.std.specs.List.{list_all}
use Rattle.std.specs.Str.Parse.{digits_value}
use Rattle.sat_log.specs.Literal.{Literal}
use Rattle.sat_log.specs.Accepted.{clause_at}
use Rattle.sat_log.specs.Checking.{accepts, can_assume, is_end}
use Rattle.sat_log_text.specs.LogText.{zero_word}
use Rattle.sat_log.specs.declared.line.LineKind.{LineKind}
use Rattle.sat_log.specs.declared.line.LineKind.TheVariants.{Original, Conflict, Final}
use Rattle.sat_log.specs.declared.line.LogLine.{LogLine}
use Rattle.sat_log_text.specs.declared.fault.LogFault.{LogFault}
use Rattle.sat_log_text.specs.declared.fault.LogFault.TheVariants.{BadNumber, MissingZero, BadHint, NotAccepted, Truncated}

-- how many bytes stand before the first separator
abbrev pub piece_len : ℕ → List ℕ → ℕ
piece_len separator [] = 0
piece_len separator (b ∷ bytes) = if b == separator then 0 else piece_len separator bytes + 1

-- whether two texts are the same
abbrev pub same_bytes : List ℕ → List ℕ → Bool
same_bytes [] [] = true
same_bytes [] (c ∷ ds) = false
same_bytes (b ∷ bs) [] = false
same_bytes (b ∷ bs) (c ∷ ds) = (b == c) && same_bytes bs ds

-- whether a word is not empty and has no zero before others
abbrev pub is_plain : List ℕ → Bool
is_plain [] = false
is_plain (b ∷ []) = true
is_plain (b ∷ c ∷ word) = not (b == 48)

-- the number below 2 ^ 63 that a word writes: it is its decimal text
abbrev pub number_of : List ℕ → Option ℕ
number_of word =
    if same_bytes (decimal (digits_value 10 word)) word && nat_lt (digits_value 10 word) (2 ^ 63) then Some (digits_value 10 word) else None

-- a literal of this number, unless it is 0
abbrev pub literal_if : Bool → Option ℕ → Option Literal
literal_if negative None = None
literal_if negative (Some n) = if n == 0 then None else Some (record { var = n; negative = negative })

-- the literal that a word writes
abbrev pub literal_of : List ℕ → Option Literal
literal_of [] = None
literal_of (b ∷ word) = if b == 45 then literal_if true (number_of word) else literal_if false (number_of (b ∷ word))

-- an item read before others
abbrev pub with_item : {A : Type 0} → A → Result (List A × List (List ℕ)) LogFault → Result (List A × List (List ℕ)) LogFault
with_item x (Ok read) = Ok (x ∷ read.0, read.1)
with_item x (Err fault) = Err fault

-- an item that a word may write, and what follows
abbrev pub item_then : {A : Type 0} → ℕ → Option A → Result (List A × List (List ℕ)) LogFault → Result (List A × List (List ℕ)) LogFault
item_then n None rest = Err (BadNumber n)
item_then n (Some x) rest = with_item x rest

-- In line n, the items up to the word 0, and the words behind it.
abbrev pub items : {A : Type 0} → (List ℕ → Option A) → ℕ → List (List ℕ) → Result (List A × List (List ℕ)) LogFault
items of n [] = Err (MissingZero n)
items of n (word ∷ words) = if same_bytes word zero_word then Ok ([], words) else item_then n (of word) (items of n words)

-- the kind of line that a word names
abbrev pub kind_of : List ℕ → Option LineKind
kind_of word = if same_bytes word (codes "o") then Some Original else (if same_bytes word (codes "c") then Some Conflict else (if same_bytes word (codes "f") then Some Final else None))

-- a line of which all words were read
abbrev pub whole_line : ℕ → LineKind → List Literal → Result (List ℕ × List (List ℕ)) LogFault → Result LogLine LogFault
whole_line n kind lits (Err fault) = Err fault
whole_line n kind lits (Ok (hints, [])) = Ok (record { kind = kind; lits = lits; hints = hints })
whole_line n kind lits (Ok (hints, word ∷ words)) = Err (BadNumber n)

-- the hints of a line of this kind
abbrev pub hints_of : ℕ → LineKind → List (List ℕ) → Result (List ℕ × List (List ℕ)) LogFault
hints_of n Original words = Ok ([], words)
hints_of n Conflict words = items number_of n words
hints_of n Final words = items number_of n words

-- what stands behind the literals of a line
abbrev pub after_literals : ℕ → LineKind → Result (List Literal × List (List ℕ)) LogFault → Result LogLine LogFault
after_literals n kind (Err fault) = Err fault
after_literals n kind (Ok read) = whole_line n kind read.0 (hints_of n kind read.1)

-- what stands behind the letter of a line
abbrev pub after_letter : ℕ → Option LineKind → List (List ℕ) → Result LogLine LogFault
after_letter n None words = Err (BadNumber n)
after_letter n (Some kind) words = after_literals n kind (items literal_of n words)

-- In line n of a text, the line of a log with this id.
abbrev pub line_of : ℕ → ℕ → List (List ℕ) → Result LogLine LogFault
line_of n id [] = Err (BadNumber n)
line_of n id (first ∷ []) = Err (BadNumber n)
line_of n id (first ∷ second ∷ words) =
    if same_bytes first (decimal id) then after_letter n (kind_of second) words else Err (BadNumber n)

-- the number of clauses that a last line states
abbrev pub end_of : List (List ℕ) → Option ℕ
end_of [] = None
end_of (first ∷ []) = None
end_of (first ∷ second ∷ []) = if same_bytes first (codes "end") then number_of second else None
end_of (first ∷ second ∷ third ∷ words) = None

-- whether each hint names a clause
abbrev pub all_named : List LogLine → List ℕ → Bool
all_named log hints = list_all (λ id. is_some (clause_at log id)) hints

-- whether no literal is there
abbrev pub is_nil : List Literal → Bool
is_nil [] = true
is_nil (l ∷ c) = false

-- whether the line may come next
abbrev pub may_follow : LineKind → List LogLine → LogLine → Bool
may_follow Original log line = not (is_nil line.lits) && (is_end line.hints && can_assume [] line.lits)
may_follow Conflict log line = accepts log line
may_follow Final log line = accepts log line

-- the log with one line more
abbrev pub with_line : List LogLine → LogLine → Result (List LogLine) LogFault
with_line log line =
    if all_named log line.hints then (if may_follow line.kind log line then Ok (log ++ line ∷ []) else Err (NotAccepted (length log + 1))) else Err (BadHint (length log + 2))

-- the log with the line that the words write
abbrev pub with_words : List LogLine → Result LogLine LogFault → Result (List LogLine) LogFault
with_words log (Err fault) = Err fault
with_words log (Ok line) = with_line log line

-- what stands behind the last line of a text whose log has n lines
abbrev pub at_end : List LogLine → ℕ → List (List (List ℕ)) → Result (List LogLine) LogFault
at_end log n [] = if n == length log then Ok log else Err Truncated
at_end log n (line ∷ rest) = if n == length log then Err (BadNumber (length log + 3)) else Err Truncated

-- what follows the log with one line more, if there is one
abbrev pub then_read : Result (List LogLine) LogFault → (List LogLine → Result (List LogLine) LogFault) → Result (List LogLine) LogFault
then_read (Err fault) next = Err fault
then_read (Ok log) next = next log

-- a last line, or another
abbrev pub end_or : Option ℕ → (ℕ → Result (List LogLine) LogFault) → Result (List LogLine) LogFault → Result (List LogLine) LogFault
end_or (Some n) ends more = ends n
end_or None ends more = more

-- the rest of a text, of which the lines so far are those of a log
abbrev pub read_rest : List LogLine → List (List (List ℕ)) → Result (List LogLine) LogFault
read_rest log [] = Err Truncated
read_rest log (line ∷ rest) =
    end_or (end_of line) (λ n. at_end log n rest) (then_read (with_words log (line_of (length log + 2) (length log + 1) line)) (λ longer. read_rest longer rest))

-- whether a line is the first of a log's text
abbrev pub is_header : List (List ℕ) → Bool
is_header [] = false
is_header (first ∷ []) = false
is_header (first ∷ second ∷ []) = same_bytes first (codes "log") && same_bytes second (codes "1")
is_header (first ∷ second ∷ third ∷ words) = false

-- the log that a text writes, or its first fault
abbrev pub read_page : List (List (List ℕ)) → Result (List LogLine) LogFault
read_page [] = Err (BadNumber 1)
read_page (line ∷ rest) = if is_header line then read_rest [] rest else Err (BadNumber 1)
