-- The text of a trace, and the sections that it gives.
use Rattle.std.specs.Prelude.{◌≡◌, ℕ, ◌+◌, ◌-◌, Bool, true, false, ◌&&◌, if◌then◌else◌, List, [], ◌∷◌, ◌++◌, length, take, drop, codes, decimal, Option, Some, None, is_none, unwrap_or, find, map}
use Rattle.std.specs.Option.{option_and_then, option_map}
use Rattle.std.specs.Str.{bytes_eq}
use Rattle.text_lines.specs.Lines.{is_blank, lines_of}
use Rattle.smv_tree.specs.declared.value.Value.{Value}
use Rattle.smv_tree.specs.declared.value.Value.TheVariants.{Truth}
use Rattle.bool_replay.specs.Plain.{is_declared}

-- the line without blanks at its front
abbrev pub without_front : List ℕ → List ℕ
without_front [] = []
without_front (b ∷ bytes) = if is_blank b then without_front bytes else b ∷ bytes

-- the byte and then the line, unless both are blank
abbrev pub unless_blank : ℕ → List ℕ → List ℕ
unless_blank b [] = if is_blank b then [] else b ∷ []
unless_blank b (c ∷ bytes) = b ∷ c ∷ bytes

-- the line without blanks at its end
abbrev pub without_end : List ℕ → List ℕ
without_end [] = []
without_end (b ∷ bytes) = unless_blank b (without_end bytes)

abbrev pub trimmed : List ℕ → List ℕ
trimmed line = without_end (without_front line)

-- a line of a text with its number
pub record Line : Type 0 where
  pub number : ℕ
  pub text : List ℕ

-- the line before these, unless it is empty
abbrev pub unless_empty : ℕ → List ℕ → List Line → List Line
unless_empty n [] others = others
unless_empty n (b ∷ text) others = record { number = n; text = b ∷ text } ∷ others

-- the lines that are not empty, numbered from n, with their blanks at both ends dropped
abbrev pub content_from : ℕ → List (List ℕ) → List Line
content_from n [] = []
content_from n (line ∷ lines) = unless_empty n (trimmed line) (content_from (n + 1) lines)

-- the lines of a text that are not empty
abbrev pub content : List ℕ → List Line
content text = content_from 1 (lines_of text)

-- a section: the number of its line, and the values that it states
pub record Section : Type 0 where
  pub line : ℕ
  pub stated : List (List ℕ × Bool)

-- the line that begins section n
abbrev pub section_text : ℕ → List ℕ
section_text n = codes "-> State: 1." ++ (decimal n ++ codes " <-")

-- the line without this end, if it has it
abbrev pub without_suffix : List ℕ → List ℕ → Option (List ℕ)
without_suffix suffix line =
    if bytes_eq (drop (length line - length suffix) line) suffix then Some (take (length line - length suffix) line) else None

-- a statement by a name that may be there, or else another
abbrev pub stated_or : Option (List ℕ) → Bool → Option (List ℕ × Bool) → Option (List ℕ × Bool)
stated_or (Some n) b other = Some (n, b)
stated_or None b other = other

-- the name and the truth value that a line states
abbrev pub statement_of : List ℕ → Option (List ℕ × Bool)
statement_of line = stated_or (without_suffix (codes " = TRUE") line) true (stated_or (without_suffix (codes " = FALSE") line) false None)

-- the value that is stated for a name
abbrev pub value_of : List (List ℕ × Bool) → List ℕ → Option Bool
value_of [] n = None
value_of (s ∷ stated) n = if bytes_eq n s.0 then Some s.1 else value_of stated n

-- a section with one more statement, of a declared name that it does not state yet
abbrev pub add_statement : List (List ℕ) → Section → List ℕ × Bool → Option Section
add_statement names s st =
    if is_declared names st.0 && is_none (value_of s.stated st.0)
    then Some (record { line = s.line; stated = s.stated ++ st ∷ [] })
    else None

-- the sections that were read: none yet, or some that are complete and the last one
pub data Progress : Type 0 where
  begun : Progress
  within : List Section → Section → Progress

-- a section without statements
abbrev pub opened : Line → Section
opened line = record { line = line.number; stated = [] }

-- one more line begins the next section or states a value in the last one
abbrev pub add_line : List (List ℕ) → Line → Progress → Option Progress
add_line names line begun = if bytes_eq (section_text 1) line.text then Some (within [] (opened line)) else None
add_line names line (within done s) =
    if bytes_eq (section_text (length done + 2)) line.text
    then Some (within (done ++ s ∷ []) (opened line))
    else option_map (within done) (option_and_then (add_statement names s) (statement_of line.text))

-- the sections after more lines
abbrev pub add_lines : List (List ℕ) → List Line → Progress → Option Progress
add_lines names [] p = Some p
add_lines names (line ∷ lines) p = option_and_then (add_lines names lines) (add_line names line p)

-- the sections of a trace's text, at least one, where each line of it is part of one
abbrev pub IsTraceText : List (List ℕ) → List ℕ → List Section → Type 0
IsTraceText names text sections =
    (done : List Section) × (last : Section) × (add_lines names (content text) begun ≡ Some (within done last)) × (sections ≡ done ++ last ∷ [])

-- the first name for which a section states no value
abbrev pub lacking : List (List ℕ) → Section → Option (List ℕ)
lacking names s = find (λ n. is_none (value_of s.stated n)) names

-- a gap in a section, or else another
abbrev pub gap_or : ℕ → Option (List ℕ) → Option (ℕ × List ℕ) → Option (ℕ × List ℕ)
gap_or line (Some n) other = Some (line, n)
gap_or line None other = other

-- the line of the first section that lacks a value, and the first name that it lacks
abbrev pub first_gap : List (List ℕ) → List Section → Option (ℕ × List ℕ)
first_gap names [] = None
first_gap names (s ∷ sections) = gap_or s.line (lacking names s) (first_gap names sections)

-- the truth values of a section, a value that lacks read as false
abbrev pub truths_of : List (List ℕ) → Section → List Bool
truths_of names s = map (λ n. unwrap_or (value_of s.stated n) false) names

-- the states of sections
abbrev pub states_of : List (List ℕ) → List Section → List (List Value)
states_of names sections = map (map Truth) (map (truths_of names) sections)
