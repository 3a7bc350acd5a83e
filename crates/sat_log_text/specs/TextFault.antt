-- What is wrong with a text that is not that of a log.
use Rattle.std.specs.Prelude.{◌≡◌, ◌≢◌, ◌⊎◌, ◌+◌, ◌<◌, ◌≤◌, ◌^◌, ℕ, IsSome, List, [], ◌∷◌, ◌++◌, length}
use Rattle.std.specs.List.{AllByRecursion}
use Rattle.sat_log.specs.Literal.{IsVariable}
use Rattle.sat_log.specs.Clause.{AreLiterals}
use Rattle.sat_log.specs.Accepted.{clause_at, Follows, IsLog}
use Rattle.sat_log_text.specs.LogText.{line_words, clause_lines, header, end_words}
use Rattle.sat_log_text.specs.Page.{page}
use Rattle.sat_log.specs.declared.line.LineKind.TheVariants.{Original}
use Rattle.sat_log.specs.declared.line.LogLine.{LogLine}
use Rattle.sat_log_text.specs.declared.fault.LogFault.{LogFault}
use Rattle.sat_log_text.specs.declared.fault.LogFault.TheVariants.{BadNumber, MissingZero, BadHint, NotAccepted, Truncated, NoMemory}

-- a line whose numbers all can be written
pub record IsWritable (line : LogLine) : Type 0 where
  pub literals : AreLiterals line.lits
  pub hints : AllByRecursion IsVariable line.hints
  pub unhinted : line.kind ≡ Original → line.hints ≡ []

-- the words are the whole line of a clause with this id
pub record IsLineOf (id : ℕ) (words : List (List ℕ)) (line : LogLine) : Type 0 where
  pub writable : IsWritable line
  pub words_are : words ≡ line_words id line

-- the words begin the line of a clause with this id: its id, its letter, and maybe more
pub record BeginsLine (id : ℕ) (words : List (List ℕ)) : Type 0 where
  pub line : LogLine
  pub rest : List (List ℕ)
  pub writable : IsWritable line
  pub words_are : words ++ rest ≡ line_words id line
  pub enough : 2 ≤ length words

-- the words are a last line that states n clauses
pub record IsEndOf (words : List (List ℕ)) (n : ℕ) : Type 0 where
  pub small : n < 2 ^ 63
  pub words_are : words ≡ end_words n

-- the lines of the text are the first line, those of a log, and these others
pub record Reaches (text : List ℕ) (log : List LogLine) (rest : List (List (List ℕ))) : Type 0 where
  pub lines_are : page text ≡ header ∷ (clause_lines 1 log ++ rest)
  pub log_is : IsLog log

-- The first line is another.
pub record HasNoHeader (text : List ℕ) (n : ℕ) : Type 0 where
  pub number : n ≡ 1
  pub other : (rest : List (List (List ℕ))) → page text ≢ header ∷ rest

-- The line after those of a log begins no line of a clause with the next id, and is no last line.
pub record HasBadLine (text : List ℕ) (n : ℕ) : Type 0 where
  pub log : List LogLine
  pub words : List (List ℕ)
  pub rest : List (List (List ℕ))
  pub reaches : Reaches text log (words ∷ rest)
  pub number : n ≡ length log + 2
  pub no_line : ¬ BeginsLine (length log + 1) words
  pub no_end : (m : ℕ) → ¬ IsEndOf words m

-- A line stands behind the right last line.
pub record GoesOn (text : List ℕ) (n : ℕ) : Type 0 where
  pub log : List LogLine
  pub words : List (List ℕ)
  pub rest : List (List (List ℕ))
  pub reaches : Reaches text log (end_words (length log) ∷ words ∷ rest)
  pub number : n ≡ length log + 3

-- The line after those of a log begins a line of a clause with the next id, and is not the whole of one.
pub record HasOpenLine (text : List ℕ) (n : ℕ) : Type 0 where
  pub log : List LogLine
  pub words : List (List ℕ)
  pub rest : List (List (List ℕ))
  pub reaches : Reaches text log (words ∷ rest)
  pub number : n ≡ length log + 2
  pub begins : BeginsLine (length log + 1) words
  pub open_end : (line : LogLine) → ¬ IsLineOf (length log + 1) words line

-- the hint names an original or a conflict line of the log
abbrev pub Names : List LogLine → ℕ → Type 0
Names log id = IsSome (clause_at log id)

-- The line after those of a log is one of a clause, and some hint of it names no clause before.
pub record HasBadHint (text : List ℕ) (n : ℕ) : Type 0 where
  pub log : List LogLine
  pub line : LogLine
  pub rest : List (List (List ℕ))
  pub reaches : Reaches text log (line_words (length log + 1) line ∷ rest)
  pub number : n ≡ length log + 2
  pub writable : IsWritable line
  pub unnamed : ¬ AllByRecursion (Names log) line.hints

-- The line after those of a log is one of a clause, its hints name clauses before, and it doesn't follow.
pub record HasBadClause (text : List ℕ) (id : ℕ) : Type 0 where
  pub log : List LogLine
  pub line : LogLine
  pub rest : List (List (List ℕ))
  pub reaches : Reaches text log (line_words (length log + 1) line ∷ rest)
  pub number : id ≡ length log + 1
  pub writable : IsWritable line
  pub named : AllByRecursion (Names log) line.hints
  pub refused : ¬ Follows log line

-- Nothing stands behind the lines of a log.
pub record HasNoEnd (text : List ℕ) : Type 0 where
  pub log : List LogLine
  pub reaches : Reaches text log []

-- Behind the lines of a log, a last line states another number of clauses.
pub record HasWrongEnd (text : List ℕ) : Type 0 where
  pub log : List LogLine
  pub words : List (List ℕ)
  pub rest : List (List (List ℕ))
  pub reaches : Reaches text log (words ∷ rest)
  pub n : ℕ
  pub states : IsEndOf words n
  pub wrong : n ≢ length log

-- The fault of a text: that of the first line that has one, and in it the fault with the smallest number.
abbrev pub HasFault : List ℕ → LogFault → Type 0
HasFault text (BadNumber n) = HasNoHeader text n ⊎ (HasBadLine text n ⊎ GoesOn text n)
HasFault text (MissingZero n) = HasOpenLine text n
HasFault text (BadHint n) = HasBadHint text n
HasFault text (NotAccepted id) = HasBadClause text id
HasFault text Truncated = HasNoEnd text ⊎ HasWrongEnd text
HasFault text (NoMemory e) = ⊥
