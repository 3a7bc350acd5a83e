-- A line is split mark by mark.
use Rattle.std.proofs.lemmas.List.{drop-drop}
use Rattle.shell_lang.specs.Marks.{Takes}
use Rattle.std.proofs.Common.{◌≡◌, ◌↔◌, ℕ, ◌+◌, List, [], ◌∷◌, drop, refl, ap, sym, ◌∙◌, subst, inl, inr}
use Rattle.std.specs.Prelude.{◌⊎◌, Option, Some, None, Result, Ok, Err, alloc_error}
use Rattle.shell_lang.specs.Answers.{Answers}
use Rattle.std.specs.Option.{option_map}
use Rattle.shell_lang.specs.declared.builder.Builder.{Builder}
use Rattle.shell_lang.specs.declared.fault.LangFault.{LangFault}
use Rattle.shell_lang.specs.declared.fault.LangFault.TheVariants.{Quote, NoMemory}
use Rattle.shell_lang.specs.declared.line.Piece.{Piece}
use Rattle.shell_lang.specs.declared.mark.Mark.{Mark}
use Rattle.shell_lang.specs.Lines.{Reads, Splits, answer_of, start_of, over, unclosed, begins, ends, fails, goes}
use Rattle.shell_lang.specs.Grouped.{GoesOn, answer_from, from_open, with_marks}
use Rattle.shell_lang.proofs.Groups.{from_open-all}

-- a line that begins with a mark reads as that mark and what its rest reads as
next_reads : {line : List ℕ} {marks : Option (List Mark)} → Reads line marks → (rest : List ℕ) (mark : Mark) → start_of line ≡ begins mark rest → (more : Option (List Mark)) × Reads rest more × (marks ≡ option_map (λ ms. mark ∷ ms) more)
next_reads (ends line over_is) rest mark begins_is = cc
next_reads (fails line unclosed_is) rest mark begins_is = cc
next_reads (goes line rest' mark' more first reads) rest mark begins_is =
    let same_rest : rest' ≡ rest = cc in
    let same_mark : mark' ≡ mark = cc in
    (more, subst (λ (r : List ℕ). Reads r more) same_rest reads, ap (λ (m : Mark). option_map (λ ms. m ∷ ms) more) same_mark)

-- a line that is over reads as no marks
over_reads : {line : List ℕ} {marks : Option (List Mark)} → Reads line marks → start_of line ≡ over → marks ≡ Some []
over_reads (ends line over_is) is = refl
over_reads (fails line unclosed_is) is = cc
over_reads (goes line rest mark more first reads) is = cc

-- a line with a quote that is not closed reads as none
unclosed_reads : {line : List ℕ} {marks : Option (List Mark)} → Reads line marks → start_of line ≡ unclosed → marks ≡ None
unclosed_reads (ends line over_is) is = cc
unclosed_reads (fails line unclosed_is) is = refl
unclosed_reads (goes line rest mark more first reads) is = cc

from_none : (builder : Builder) → ((marks : List Mark) → with_marks builder marks ≡ from_open [] [] marks) → (marks : Option (List Mark)) → answer_from builder marks ≡ answer_of marks
from_none builder new None = refl
from_none builder new (Some marks) = ap Ok (new marks ∙ from_open-all marks)

-- nothing is read yet
pub goes_on-none : (line : List ℕ) (builder : Builder) → ((marks : List Mark) → with_marks builder marks ≡ from_open [] [] marks) → GoesOn line builder line
goes_on-none line builder new answer = (
  λ (marks, reads, is). (marks, reads, sym (from_none builder new marks) ∙ is),
  λ (marks, reads, is). (marks, reads, from_none builder new marks ∙ is),
)

one_more : (old new : Builder) (mark : Mark) → ((marks : List Mark) → with_marks new marks ≡ with_marks old (mark ∷ marks)) → (more : Option (List Mark)) → answer_from new more ≡ answer_from old (option_map (λ ms. mark ∷ ms) more)
one_more old new mark added None = refl
one_more old new mark added (Some marks) = ap Ok (added marks)

-- one more mark is read
pub goes_on-more : (line : List ℕ) (old new : Builder) (rest rest' : List ℕ) (mark : Mark) → start_of rest ≡ begins mark rest' → ((marks : List Mark) → with_marks new marks ≡ with_marks old (mark ∷ marks)) → GoesOn line old rest → GoesOn line new rest'
goes_on-more line old new rest rest' mark first added before answer = (
  λ (more, reads, is). (before answer).0 (option_map (λ ms. mark ∷ ms) more, goes rest rest' mark more first reads, sym (one_more old new mark added more) ∙ is),
  λ split.
      let on = (before answer).1 split in
      let next = next_reads on.1 rest' mark first in
      (next.0, next.1, one_more old new mark added next.0 ∙ ap (answer_from old) (sym next.2) ∙ on.2),
)

-- the line is over
pub goes_on-over : (line : List ℕ) (builder : Builder) (rest : List ℕ) → start_of rest ≡ over → GoesOn line builder rest → (answer : Result (List (List (List Piece))) LangFault) → Splits line answer ↔ (Ok (with_marks builder []) ≡ answer)
goes_on-over line builder rest is before answer = (
  λ split.
      let on = (before answer).1 split in
      ap (answer_from builder) (sym (over_reads on.1 is)) ∙ on.2,
  λ same. (before answer).0 (Some [], ends rest is, same),
)

-- a quote is not closed
pub goes_on-unclosed : (line : List ℕ) (builder : Builder) (rest : List ℕ) → start_of rest ≡ unclosed → GoesOn line builder rest → (answer : Result (List (List (List Piece))) LangFault) → Splits line answer ↔ (Err Quote ≡ answer)
goes_on-unclosed line builder rest is before answer = (
  λ split.
      let on = (before answer).1 split in
      ap (answer_from builder) (sym (unclosed_reads on.1 is)) ∙ on.2,
  λ same. (before answer).0 (None, fails rest is, same),
)

-- what is answered where the line is over
pub over_right : (line : List ℕ) (builder : Builder) (rest : List ℕ) (commands : List (List (List Piece))) → start_of rest ≡ over → GoesOn line builder rest → commands ≡ with_marks builder [] → Splits line (Ok commands) ⊎ (let r : Result (List (List (List Piece))) LangFault = Ok commands in r ≡ Err (NoMemory alloc_error))
over_right line builder rest commands is before e =
    inl ((goes_on-over line builder rest is before (Ok commands)).1 (ap Ok (sym e)))

pub over_only : (line : List ℕ) (builder : Builder) (rest : List ℕ) (commands : List (List (List Piece))) → start_of rest ≡ over → GoesOn line builder rest → commands ≡ with_marks builder [] → (answer : Result (List (List (List Piece))) LangFault) → Splits line answer → Answers answer (Ok commands)
over_only line builder rest commands is before e answer split =
    inl (ap Ok e ∙ (goes_on-over line builder rest is before answer).0 split)

-- what is answered where the next mark cannot be read
pub failed_right : (line : List ℕ) (builder : Builder) (rest : List ℕ) (fault : LangFault) (result : Result (List (List (List Piece))) LangFault) → result ≡ Err fault → ((fault ≡ Quote) × (start_of rest ≡ unclosed)) ⊎ (fault ≡ NoMemory alloc_error) → GoesOn line builder rest → Splits line result ⊎ (result ≡ Err (NoMemory alloc_error))
failed_right line builder rest fault result e (inl (quote, is)) before =
    inl ((goes_on-unclosed line builder rest is before result).1 (ap Err (sym quote) ∙ sym e))
failed_right line builder rest fault result e (inr memory) before = inr (e ∙ ap Err memory)

pub failed_only : (line : List ℕ) (builder : Builder) (rest : List ℕ) (fault : LangFault) (result : Result (List (List (List Piece))) LangFault) → result ≡ Err fault → ((fault ≡ Quote) × (start_of rest ≡ unclosed)) ⊎ (fault ≡ NoMemory alloc_error) → GoesOn line builder rest → (answer : Result (List (List (List Piece))) LangFault) → Splits line answer → Answers answer result
failed_only line builder rest fault result e (inl (quote, is)) before answer split =
    inl (e ∙ ap Err quote ∙ (goes_on-unclosed line builder rest is before answer).0 split)
failed_only line builder rest fault result e (inr memory) before answer split = inr (e ∙ ap Err memory)

-- one more mark is read, at its place
pub goes_on-further : (line bytes rest : List ℕ) (at len : ℕ) (old new : Builder) (mark : Mark) → rest ≡ drop at bytes → Takes (start_of rest) rest (mark, len) → ((marks : List Mark) → with_marks new marks ≡ with_marks old (mark ∷ marks)) → GoesOn line old (drop at bytes) → GoesOn line new (drop (at + len) bytes)
goes_on-further line bytes rest at len old new mark here taken added before =
    let there : drop len rest ≡ drop (at + len) bytes = ap (λ (r : List ℕ). drop len r) here ∙ drop-drop len at bytes in
    subst (λ (r : List ℕ). GoesOn line new r) there (goes_on-more line old new rest (drop len rest) mark taken.0 added (subst (λ (r : List ℕ). GoesOn line old r) (sym here) before))
