-- The text of a log.
use Rattle.std.specs.Prelude.{◌≡◌, ◌⊎◌, ◌+◌, ℕ, if◌then◌else◌, List, [], ◌∷◌, ◌++◌, length, map, codes, decimal}
use Rattle.std.specs.List.{flat_map}
use Rattle.sat_log.specs.Literal.{Literal}
use Rattle.sat_log.specs.declared.line.LineKind.{LineKind}
use Rattle.sat_log.specs.declared.line.LineKind.TheVariants.{Original, Conflict, Final}
use Rattle.sat_log.specs.declared.line.LogLine.{LogLine}

-- words parted by single blanks, after a first one
abbrev pub spaced : List (List ℕ) → List ℕ
spaced words = flat_map (λ w. 32 ∷ w) words

-- a line of words, parted by single blanks, and its line feed
abbrev pub line_text : List (List ℕ) → List ℕ
line_text [] = 10 ∷ []
line_text (w ∷ words) = w ++ spaced words ++ 10 ∷ []

-- a literal: its variable, behind a minus sign where it is negated
abbrev pub literal_word : Literal → List ℕ
literal_word l = if l.negative then 45 ∷ decimal l.var else decimal l.var

-- the word that ends a list
abbrev pub zero_word : List ℕ
zero_word = 48 ∷ []

-- the letter of a kind of line
abbrev pub letter : LineKind → List ℕ
letter Original = codes "o"
letter Conflict = codes "c"
letter Final = codes "f"

-- the hints of a line with their zero: originals have none
abbrev pub hint_words : LineKind → List ℕ → List (List ℕ)
hint_words Original hints = []
hint_words Conflict hints = map decimal hints ++ zero_word ∷ []
hint_words Final hints = map decimal hints ++ zero_word ∷ []

-- a line of a log: its id, its letter, its literals and a zero, its hints and a zero
abbrev pub line_words : ℕ → LogLine → List (List ℕ)
line_words id line =
    decimal id ∷ letter line.kind ∷ (map literal_word line.lits ++ zero_word ∷ hint_words line.kind line.hints)

-- the lines of a log, whose ids go up by one
abbrev pub clause_lines : ℕ → List LogLine → List (List (List ℕ))
clause_lines id [] = []
clause_lines id (line ∷ lines) = line_words id line ∷ clause_lines (id + 1) lines

-- the first line of every log
abbrev pub header : List (List ℕ)
header = codes "log" ∷ codes "1" ∷ []

-- the last line, with the number of clauses
abbrev pub end_words : ℕ → List (List ℕ)
end_words n = codes "end" ∷ decimal n ∷ []

-- all lines of a log
abbrev pub log_page : List LogLine → List (List (List ℕ))
log_page log = header ∷ (clause_lines 1 log ++ end_words (length log) ∷ [])

-- the text of a log
abbrev pub text_of : List LogLine → List ℕ
text_of log = flat_map line_text (log_page log)

-- the bytes are the text of the log, or lack its last line feed
abbrev pub IsTextOf : List LogLine → List ℕ → Type 0
IsTextOf log text = (text ≡ text_of log) ⊎ (text ++ 10 ∷ [] ≡ text_of log)
