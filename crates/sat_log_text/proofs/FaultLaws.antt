-- What is read of a text is the log of which it is the text, or the fault that it has.
use Rattle.std.proofs.Common.{◌≡◌, ◌≢◌, ℕ, ◌+◌, ◌<◌, ◌^◌, ◌⊎◌, inl, inr, Bool, true, false, cond, eqb, ◌&&◌, List, [], ◌∷◌, ◌++◌, length, refl, ap, sym, subst, ◌∙◌, append_assoc, arith, decimal}
use Rattle.std.specs.Prelude.{Option, Some, None, IsSome, Result, Ok, Err, is_some}
use Rattle.std.specs.List.{AllByRecursion}
use Rattle.std.proofs.lemmas.Bool.{false≢true, eqb-true, eq-eqb, ne_eqb}
use Rattle.std.proofs.lemmas.Fmt.{decimal_is_IsNumeral}
use Rattle.std.specs.Str.Parse.{AllDigits}
use Rattle.sat_log.specs.Literal.{Literal}
use Rattle.sat_log.specs.Accepted.{clause_at, Follows, IsLog}
use Rattle.sat_log_text.specs.Page.{page}
use Rattle.sat_log_text.specs.LogText.{letter, hint_words, line_words, clause_lines, header, end_words, IsTextOf}
use Rattle.sat_log_text.specs.Answers.{IsNoMemory, IsAnswer}
use Rattle.sat_log_text.specs.Reading.{line_of, end_of, all_named, may_follow, with_line, with_words, at_end, then_read, end_or, read_rest, is_header, read_page}
use Rattle.sat_log_text.specs.TextFault.{IsWritable, IsLineOf, BeginsLine, IsEndOf, Reaches, HasNoHeader, HasBadLine, GoesOn, HasOpenLine, Names, HasBadHint, HasBadClause, HasWrongEnd, HasFault}
use Rattle.sat_log.specs.declared.line.LineKind.{LineKind}
use Rattle.sat_log.specs.declared.line.LineKind.TheVariants.{Original, Conflict, Final}
use Rattle.sat_log.specs.declared.line.LogLine.{LogLine}
use Rattle.sat_log_text.specs.declared.fault.LogFault.{LogFault}
use Rattle.sat_log_text.specs.declared.fault.LogFault.TheVariants.{BadNumber, MissingZero, BadHint, NotAccepted, Truncated, NoMemory}
use Rattle.sat_log.proofs.LogLemmas.{log_push}
use Rattle.sat_log_text.proofs.TextLemmas.{clause_lines-append}
use Rattle.sat_log_text.proofs.NumberLemmas.{number_of-decimal}
use Rattle.sat_log_text.proofs.PageLaws.{line_of-sound, line_of-written, end_of-sound, end_none, is_header-sound, may_follow-sound, kind_named, read_rest-lines, read_page-sound, read_page-written, read_page-log}
use Rattle.sat_log_text.proofs.SplitLaws.{text_of_page, page_of_text, reached_short, text_long}
use Rattle.sat_log_text.proofs.LineFaults.{ReadsOrOpen, begun_read, IsLineFault, line_fault, line_bad, line_open}

-- The first fault of a text, behind the lines of a log.

-- what is read of a text is what is read behind the lines of a log
read_from : (text : List ℕ) (log : List LogLine) (rest : List (List (List ℕ))) → length text < 2 ^ 63 → Reaches text log rest → read_page (page text) ≡ read_rest log rest
read_from text log rest small r =
    let short : length log + length rest < length text + 1 = reached_short text log rest r.lines_are in
    ap read_page r.lines_are ∙ read_rest-lines log [] rest r.log_is.lines (omega arith)

step_fault : (log : List LogLine) (words : List (List ℕ)) (rest : List (List (List ℕ))) (fault : LogFault) → end_of words ≡ None → with_words log (line_of (length log + 2) (length log + 1) words) ≡ Err fault → read_rest log (words ∷ rest) ≡ Err fault
step_fault log words rest fault none e =
    ap (λ o. end_or o (λ n. at_end log n rest) (then_read (with_words log (line_of (length log + 2) (length log + 1) words)) (λ longer. read_rest longer rest))) none
    ∙ ap (λ r. then_read r (λ longer. read_rest longer rest)) e

step_end : (log : List LogLine) (words : List (List ℕ)) (rest : List (List (List ℕ))) (n : ℕ) → end_of words ≡ Some n → read_rest log (words ∷ rest) ≡ at_end log n rest
step_end log words rest n e =
    ap (λ o. end_or o (λ n. at_end log n rest) (then_read (with_words log (line_of (length log + 2) (length log + 1) words)) (λ longer. read_rest longer rest))) e

end_read : (words : List (List ℕ)) (n : ℕ) → IsEndOf words n → end_of words ≡ Some n
end_read words n h = ap end_of h.words_are ∙ number_of-decimal n h.small

no_end_read : (words : List (List ℕ)) → ((n : ℕ) → ¬ IsEndOf words n) → end_of words ≡ None
no_end_read words none = by_value (end_of words) refl
  where
    by_value : (o : Option ℕ) → end_of words ≡ o → end_of words ≡ None
    by_value None e = e
    by_value (Some n) e =
        let sound = end_of-sound words n e in
        absurd (none n (record { small = sound.1; words_are = sound.0 }))

letter_no_number : (kind : LineKind) (n : ℕ) → n < 2 ^ 63 → letter kind ≡ decimal n → ⊥
letter_no_number kind n small e = by_kind kind (subst (AllDigits 10) (sym e) (decimal_is_IsNumeral n big).0.1)
  where
    big : n < 2 ^ 64
    big = omega arith

    by_kind : (kind : LineKind) → AllDigits 10 (letter kind) → ⊥
    by_kind Original h = omega (arith, h.0)
    by_kind Conflict h = omega (arith, h.0)
    by_kind Final h = omega (arith, h.0)

begun_no_end : (id : ℕ) (words : List (List ℕ)) → BeginsLine id words → (n : ℕ) → ¬ IsEndOf words n
begun_no_end id words b n h =
    let both : end_words n ++ b.rest ≡ line_words id b.line = ap (λ ws. ws ++ b.rest) (sym h.words_are) ∙ b.words_are in
    let second : letter b.line.kind ≡ decimal n = cc in
    letter_no_number b.line.kind n h.small second

named_all : (log : List LogLine) (hints : List ℕ) → AllByRecursion (Names log) hints → all_named log hints ≡ true
named_all log [] h = refl
named_all log (id ∷ hints) h = by_clause (clause_at log id) h.0 (named_all log hints h.1)
  where
    by_clause : (o : Option (List Literal)) → IsSome o → all_named log hints ≡ true → is_some o && all_named log hints ≡ true
    by_clause None some rest = absurd (false≢true some)
    by_clause (Some c) some rest = rest

all_are_named : (log : List LogLine) (hints : List ℕ) → all_named log hints ≡ true → AllByRecursion (Names log) hints
all_are_named log [] e = tt
all_are_named log (id ∷ hints) e = by_clause (clause_at log id) e (all_are_named log hints)
  where
    by_clause : (o : Option (List Literal)) → is_some o && all_named log hints ≡ true → (all_named log hints ≡ true → AllByRecursion (Names log) hints) → IsSome o × AllByRecursion (Names log) hints
    by_clause None e rest = absurd (false≢true e)
    by_clause (Some c) e rest = (refl, rest e)

false_if_not : (b : Bool) → (b ≡ true → ⊥) → b ≡ false
false_if_not true h = absurd (h refl)
false_if_not false h = refl

line_refused : (log : List LogLine) (line : LogLine) (fault : LogFault) → IsWritable line → with_line log line ≡ Err fault → with_words log (line_of (length log + 2) (length log + 1) (line_words (length log + 1) line)) ≡ Err fault
line_refused log line fault w e =
    ap (with_words log) (line_of-written (length log + 2) (length log + 1) line w) ∙ e

abbrev err_log : LogFault → Result (List LogLine) LogFault
err_log fault = Err fault

bad_hint_read : (text : List ℕ) (n : ℕ) → length text < 2 ^ 63 → HasBadHint text n → read_page (page text) ≡ Err (BadHint n)
bad_hint_read text n small h =
    let refused : with_line h.log h.line ≡ err_log (BadHint (length h.log + 2)) = ap (λ b. cond b (cond (may_follow h.line.kind h.log h.line) (Ok (h.log ++ h.line ∷ [])) (Err (NotAccepted (length h.log + 1)))) (err_log (BadHint (length h.log + 2)))) (false_if_not (all_named h.log h.line.hints) (λ e. h.unnamed (all_are_named h.log h.line.hints e))) in
    let none = end_none (decimal (length h.log + 1)) (letter h.line.kind) h.line.lits (hint_words h.line.kind h.line.hints) in
    read_from text h.log _ small h.reaches
    ∙ step_fault h.log (line_words (length h.log + 1) h.line) h.rest (BadHint (length h.log + 2)) none (line_refused h.log h.line (BadHint (length h.log + 2)) h.writable refused)
    ∙ ap (λ m. err_log (BadHint m)) (sym h.number)

bad_clause_read : (text : List ℕ) (id : ℕ) → length text < 2 ^ 63 → HasBadClause text id → read_page (page text) ≡ Err (NotAccepted id)
bad_clause_read text id small h =
    let literals = h.writable.literals in
    let refused : with_line h.log h.line ≡ err_log (NotAccepted (length h.log + 1)) = ap (λ b. cond b (cond (may_follow h.line.kind h.log h.line) (Ok (h.log ++ h.line ∷ [])) (err_log (NotAccepted (length h.log + 1)))) (err_log (BadHint (length h.log + 2)))) (named_all h.log h.line.hints h.named) ∙ ap (λ b. cond b (Ok (h.log ++ h.line ∷ [])) (err_log (NotAccepted (length h.log + 1)))) (false_if_not (may_follow h.line.kind h.log h.line) (λ e. h.refused (literals, may_follow-sound h.line.kind h.log h.line e))) in
    let none = end_none (decimal (length h.log + 1)) (letter h.line.kind) h.line.lits (hint_words h.line.kind h.line.hints) in
    read_from text h.log _ small h.reaches
    ∙ step_fault h.log (line_words (length h.log + 1) h.line) h.rest (NotAccepted (length h.log + 1)) none (line_refused h.log h.line (NotAccepted (length h.log + 1)) h.writable refused)
    ∙ ap (λ m. err_log (NotAccepted m)) (sym h.number)

bad_line_read : (text : List ℕ) (n : ℕ) → length text < 2 ^ 63 → HasBadLine text n → read_page (page text) ≡ Err (BadNumber n)
bad_line_read text n small h =
    read_from text h.log _ small h.reaches
    ∙ step_fault h.log h.words h.rest (BadNumber (length h.log + 2)) (no_end_read h.words h.no_end) (ap (with_words h.log) (line_bad (length h.log + 2) (length h.log + 1) h.words h.no_line))
    ∙ ap (λ m. err_log (BadNumber m)) (sym h.number)

open_line_read : (text : List ℕ) (n : ℕ) → length text < 2 ^ 63 → HasOpenLine text n → read_page (page text) ≡ Err (MissingZero n)
open_line_read text n small h =
    read_from text h.log _ small h.reaches
    ∙ step_fault h.log h.words h.rest (MissingZero (length h.log + 2)) (no_end_read h.words (begun_no_end (length h.log + 1) h.words h.begins)) (ap (with_words h.log) (line_open (length h.log + 2) (length h.log + 1) h.words h.begins h.open_end))
    ∙ ap (λ m. err_log (MissingZero m)) (sym h.number)

goes_on_read : (text : List ℕ) (n : ℕ) → length text < 2 ^ 63 → GoesOn text n → read_page (page text) ≡ Err (BadNumber n)
goes_on_read text n small h =
    let short : length h.log + length (end_words (length h.log) ∷ h.words ∷ h.rest) < length text + 1 = reached_short text h.log (end_words (length h.log) ∷ h.words ∷ h.rest) h.reaches.lines_are in
    let fits : length h.log < 2 ^ 63 = omega arith in
    read_from text h.log _ small h.reaches
    ∙ step_end h.log (end_words (length h.log)) (h.words ∷ h.rest) (length h.log) (number_of-decimal (length h.log) fits)
    ∙ ap (λ b. cond b (err_log (BadNumber (length h.log + 3))) (Err Truncated)) (eq-eqb (length h.log) (length h.log) refl)
    ∙ ap (λ m. err_log (BadNumber m)) (sym h.number)

wrong_end_read : (text : List ℕ) → length text < 2 ^ 63 → HasWrongEnd text → read_page (page text) ≡ Err Truncated
wrong_end_read text small h =
    read_from text h.log _ small h.reaches
    ∙ step_end h.log h.words h.rest h.n (end_read h.words h.n h.states)
    ∙ by_rest h.rest (ne_eqb h.n (length h.log) h.wrong)
  where
    by_rest : (rest : List (List (List ℕ))) → eqb h.n (length h.log) ≡ false → at_end h.log h.n rest ≡ Err Truncated
    by_rest [] e = ap (λ b. cond b (Ok h.log) (err_log Truncated)) e
    by_rest (ws ∷ rest) e = ap (λ b. cond b (err_log (BadNumber (length h.log + 3))) (err_log Truncated)) e

no_header_read : (text : List ℕ) (n : ℕ) → HasNoHeader text n → read_page (page text) ≡ Err (BadNumber n)
no_header_read text n h = by_page (page text) h.other ∙ ap (λ m. err_log (BadNumber m)) (sym h.number)
  where
    by_page : (p : List (List (List ℕ))) → ((rest : List (List (List ℕ))) → p ≢ header ∷ rest) → read_page p ≡ Err (BadNumber 1)
    by_page [] other = refl
    by_page (ws ∷ rest) other =
        ap (λ b. cond b (read_rest [] rest) (err_log (BadNumber 1))) (false_if_not (is_header ws) (λ e. other rest (ap (λ v. v ∷ rest) (is_header-sound ws e))))

-- the fault of a text is what is read of it
pub fault_read : (text : List ℕ) (fault : LogFault) → length text < 2 ^ 63 → HasFault text fault → read_page (page text) ≡ Err fault
fault_read text (BadNumber n) small (inl h) = no_header_read text n h
fault_read text (BadNumber n) small (inr (inl h)) = bad_line_read text n small h
fault_read text (BadNumber n) small (inr (inr h)) = goes_on_read text n small h
fault_read text (MissingZero n) small h = open_line_read text n small h
fault_read text (BadHint n) small h = bad_hint_read text n small h
fault_read text (NotAccepted id) small h = bad_clause_read text id small h
fault_read text Truncated small (inl h) = read_from text h.log [] small h.reaches
fault_read text Truncated small (inr h) = wrong_end_read text small h
fault_read text (NoMemory e) small h = absurd h

-- What is refused has the fault.

abbrev FaultsBehind : List ℕ → List LogLine → List (List (List ℕ)) → Type 0
FaultsBehind text log rest = (fault : LogFault) → Reaches text log rest → read_rest log rest ≡ Err fault → HasFault text fault

reaches_more : (text : List ℕ) (log : List LogLine) (line : LogLine) (rest : List (List (List ℕ))) → Follows log line → Reaches text log (line_words (length log + 1) line ∷ rest) → Reaches text (log ++ line ∷ []) rest
reaches_more text log line rest f r =
    let size : 1 + length log ≡ length log + 1 = omega arith in
    let lines : clause_lines 1 (log ++ line ∷ []) ≡ clause_lines 1 log ++ line_words (length log + 1) line ∷ [] = clause_lines-append 1 log (line ∷ []) ∙ ap (λ n. clause_lines 1 log ++ line_words n line ∷ []) size in
    record {
      lines_are = r.lines_are ∙ ap (λ t. header ∷ t) (sym (append_assoc (clause_lines 1 log) (line_words (length log + 1) line ∷ []) rest) ∙ ap (λ t. t ++ rest) (sym lines));
      log_is = log_push log line r.log_is f;
    }

end_refused : (text : List ℕ) (log : List LogLine) (words : List (List ℕ)) (rest : List (List (List ℕ))) (n : ℕ) (fault : LogFault) → Reaches text log (words ∷ rest) → end_of words ≡ Some n → at_end log n rest ≡ Err fault → HasFault text fault
end_refused text log words rest n fault r end e = by_rest rest r e
  where
    states : IsEndOf words n
    states =
        let sound = end_of-sound words n end in
        record { small = sound.1; words_are = sound.0 }

    wrong_end : (rest : List (List (List ℕ))) → Reaches text log (words ∷ rest) → eqb n (length log) ≡ false → Truncated ≡ fault → HasFault text fault
    wrong_end rest r other same =
        subst (HasFault text) same (inr (record { log = log; words = words; rest = rest; reaches = r; n = n; states = states; wrong = (λ e. false≢true (sym other ∙ eq-eqb n (length log) e)) }))

    goes_on : (ws : List (List ℕ)) (rest : List (List (List ℕ))) → Reaches text log (words ∷ ws ∷ rest) → eqb n (length log) ≡ true → BadNumber (length log + 3) ≡ fault → HasFault text fault
    goes_on ws rest r right same =
        let words_are : words ≡ end_words (length log) = states.words_are ∙ ap end_words (eqb-true n (length log) right) in
        subst (HasFault text) same (inr (inr (record { log = log; words = ws; rest = rest; reaches = subst (λ v. Reaches text log (v ∷ ws ∷ rest)) words_are r; number = refl })))

    by_rest : (rest : List (List (List ℕ))) → Reaches text log (words ∷ rest) → at_end log n rest ≡ Err fault → HasFault text fault
    by_rest [] r e = by_count (eqb n (length log)) refl e
      where
        by_count : (b : Bool) → eqb n (length log) ≡ b → cond b (Ok log) (Err Truncated) ≡ err_log fault → HasFault text fault
        by_count true p e = cc
        by_count false p e = wrong_end [] r p cc
    by_rest (ws ∷ rest) r e = by_count (eqb n (length log)) refl e
      where
        by_count : (b : Bool) → eqb n (length log) ≡ b → cond b (Err (BadNumber (length log + 3))) (Err Truncated) ≡ err_log fault → HasFault text fault
        by_count true p e = goes_on ws rest r p cc
        by_count false p e = wrong_end (ws ∷ rest) r p cc

line_of-no-end : (words : List (List ℕ)) → end_of words ≡ None → (n : ℕ) → ¬ IsEndOf words n
line_of-no-end words none n h = some_none (sym (end_read words n h) ∙ none)
  where
    some_none : Some n ≡ None → ⊥
    some_none e = cc

words_refused : (text : List ℕ) (log : List LogLine) (words : List (List ℕ)) (rest : List (List (List ℕ))) (fault : LogFault) → Reaches text log (words ∷ rest) → end_of words ≡ None → line_of (length log + 2) (length log + 1) words ≡ Err fault → HasFault text fault
words_refused text log words rest fault r none e =
    by_fault (line_fault (length log + 2) (length log + 1) words fault e)
  where
    by_fault : IsLineFault (length log + 2) (length log + 1) words fault → HasFault text fault
    by_fault (inl m) =
        subst (HasFault text) (sym m) (inr (inl (record { log = log; words = words; rest = rest; reaches = r; number = refl; no_line = (λ b. not_begun (e ∙ ap Err m) (begun_read (length log + 2) (length log + 1) words b)); no_end = line_of-no-end words none })))
      where
        not_begun : line_of (length log + 2) (length log + 1) words ≡ Err (BadNumber (length log + 2)) → ReadsOrOpen (length log + 2) (line_of (length log + 2) (length log + 1) words) → ⊥
        not_begun e (inl q) = cc
        not_begun e (inr (line, q)) = cc
    by_fault (inr (m, b)) =
        subst (HasFault text) (sym m) (record { log = log; words = words; rest = rest; reaches = r; number = refl; begins = b; open_end = (λ line h. not_whole line e (whole_read line h)) })
      where
        whole_read : (line : LogLine) → IsLineOf (length log + 1) words line → line_of (length log + 2) (length log + 1) words ≡ Ok line
        whole_read line h =
            ap (line_of (length log + 2) (length log + 1)) h.words_are ∙ line_of-written (length log + 2) (length log + 1) line h.writable

        not_whole : (line : LogLine) → line_of (length log + 2) (length log + 1) words ≡ Err fault → line_of (length log + 2) (length log + 1) words ≡ Ok line → ⊥
        not_whole line e q = cc

line_refused_by : (text : List ℕ) (log : List LogLine) (line : LogLine) (rest : List (List (List ℕ))) (fault : LogFault) → IsWritable line → Reaches text log (line_words (length log + 1) line ∷ rest) → then_read (with_line log line) (λ longer. read_rest longer rest) ≡ Err fault → FaultsBehind text (log ++ line ∷ []) rest → HasFault text fault
line_refused_by text log line rest fault w r e more =
    by_tests (all_named log line.hints) refl (may_follow line.kind log line) refl e
  where
    by_tests : (a : Bool) → all_named log line.hints ≡ a → (b : Bool) → may_follow line.kind log line ≡ b → then_read (cond a (cond b (Ok (log ++ line ∷ [])) (Err (NotAccepted (length log + 1)))) (Err (BadHint (length log + 2)))) (λ longer. read_rest longer rest) ≡ err_log fault → HasFault text fault
    by_tests false p b q e =
        let same : BadHint (length log + 2) ≡ fault = cc in
        subst (HasFault text) same (record { log = log; line = line; rest = rest; reaches = r; number = refl; writable = w; unnamed = (λ h. false≢true (sym p ∙ named_all log line.hints h)) })
    by_tests true p false q e =
        let same : NotAccepted (length log + 1) ≡ fault = cc in
        subst (HasFault text) same (record { log = log; line = line; rest = rest; reaches = r; number = refl; writable = w; named = all_are_named log line.hints p; refused = (λ f. false≢true (sym q ∙ (kind_named line.kind log line f.1).1)) })
    by_tests true p true q e =
        more fault (reaches_more text log line rest (w.literals, may_follow-sound line.kind log line q) r) e

faults_behind : (text : List ℕ) (rest : List (List (List ℕ))) (log : List LogLine) → FaultsBehind text log rest
faults_behind text [] log fault r e =
    let same : Truncated ≡ fault = cc in
    subst (HasFault text) same (inl (record { log = log; reaches = r }))
faults_behind text (words ∷ rest) log fault r e =
    by_end (end_of words) refl (line_of (length log + 2) (length log + 1) words) refl e (faults_behind text rest)
  where
    by_end : (o : Option ℕ) → end_of words ≡ o → (read : Result LogLine LogFault) → line_of (length log + 2) (length log + 1) words ≡ read → end_or o (λ n. at_end log n rest) (then_read (with_words log read) (λ longer. read_rest longer rest)) ≡ Err fault → ((longer : List LogLine) → FaultsBehind text longer rest) → HasFault text fault
    by_end (Some n) p read q e more = end_refused text log words rest n fault r p e
    by_end None p (Err f) q e more =
        let same : f ≡ fault = cc in
        words_refused text log words rest fault r p (q ∙ ap Err same)
    by_end None p (Ok line) q e more =
        let whole = line_of-sound (length log + 2) (length log + 1) words line q in
        line_refused_by text log line rest fault whole.writable (subst (λ v. Reaches text log (v ∷ rest)) whole.words_are r) e (more (log ++ line ∷ []))

refused : (text : List ℕ) (fault : LogFault) → read_page (page text) ≡ Err fault → HasFault text fault
refused text fault e = by_page (page text) refl e
  where
    no_header : BadNumber 1 ≡ fault → ((rest : List (List (List ℕ))) → page text ≢ header ∷ rest) → HasFault text fault
    no_header same other = subst (HasFault text) same (inl (record { number = refl; other = other }))

    by_page : (p : List (List (List ℕ))) → page text ≡ p → read_page p ≡ Err fault → HasFault text fault
    by_page [] q e =
        let same : BadNumber 1 ≡ fault = cc in
        no_header same nothing
      where
        nothing : (rest : List (List (List ℕ))) → page text ≢ header ∷ rest
        nothing rest f = cc
    by_page (ws ∷ rest) q e = by_header (is_header ws) refl e
      where
        other : is_header ws ≡ false → (more : List (List (List ℕ))) → page text ≢ header ∷ more
        other p more f =
            let first : ws ≡ header = cc in
            false≢true (sym p ∙ ap is_header first)

        by_header : (b : Bool) → is_header ws ≡ b → cond b (read_rest [] rest) (Err (BadNumber 1)) ≡ err_log fault → HasFault text fault
        by_header false p e =
            let same : BadNumber 1 ≡ fault = cc in
            no_header same (other p)
        by_header true p e =
            faults_behind text rest [] fault (record { lines_are = q ∙ ap (λ v. v ∷ rest) (is_header-sound ws p); log_is = record { lines = tt } }) e

-- The answers of a call that reads a text.

pub read_log : (text : List ℕ) (log : List LogLine) → read_page (page text) ≡ Ok log → IsLog log × IsTextOf log text
read_log text log e =
    (read_page-log (page text) log e, text_of_page text log (read_page-sound (page text) log e))

pub log_read : (text : List ℕ) (log : List LogLine) → length text < 2 ^ 63 → IsLog log → IsTextOf log text → read_page (page text) ≡ Ok log
log_read text log small h is_text =
    let long = text_long text log is_text in
    let below : length log < 2 ^ 63 = omega arith in
    ap read_page (page_of_text text log h (omega arith) is_text) ∙ read_page-written log h below

pub refused_fault : (text : List ℕ) (fault : LogFault) → IsAnswer {L = List LogLine} (Err fault) (read_page (page text)) → IsNoMemory fault ⊎ HasFault text fault
refused_fault text (BadNumber n) e = inr (refused text (BadNumber n) e)
refused_fault text (MissingZero n) e = inr (refused text (MissingZero n) e)
refused_fault text (BadHint n) e = inr (refused text (BadHint n) e)
refused_fault text (NotAccepted id) e = inr (refused text (NotAccepted id) e)
refused_fault text Truncated e = inr (refused text Truncated e)
refused_fault text (NoMemory m) e = inl tt
