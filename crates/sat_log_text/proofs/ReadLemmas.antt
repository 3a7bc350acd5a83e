-- Steps of reading a text.
use Rattle.std.proofs.Common.{◌≡◌, ℕ, ◌+◌, ◌<◌, ◌≤◌, ◌⊎◌, inl, inr, Bool, true, false, cond, ltb, List, [], ◌∷◌, length, take, drop, map, refl, ap, sym, subst, ◌∙◌, arith, decimal}
use Rattle.std.specs.Prelude.{Some, None, Result, Ok, Err}
use Rattle.text_lines.specs.Lines.{lines_of}
use Rattle.sat_log_text.specs.Page.{words, page}
use Rattle.sat_log_text.specs.Reading.{piece_len, same_bytes, items, literal_of, hints_of, whole_line, after_literals, kind_of, after_letter, line_of, is_header, end_of, end_or, at_end, then_read, with_words, read_rest, read_page}
use Rattle.std.proofs.lemmas.Bool.{cases_lt, lt-ltb, le-ltb}
use Rattle.sat_log.specs.Literal.{Literal}
use Rattle.sat_log_text.specs.Answers.{IsAnswer, IsLogAnswer, words_after}
use Rattle.sat_log.specs.declared.line.LineKind.{LineKind}
use Rattle.sat_log.specs.declared.line.LogLine.{LogLine}
use Rattle.sat_log_text.specs.declared.fault.LogFault.{LogFault}
use Rattle.sat_log_text.specs.declared.fault.LogFault.TheVariants.{BadNumber, MissingZero, BadHint, NotAccepted, Truncated, NoMemory}
use Rattle.sat_log_text.proofs.PieceLemmas.{lines_step, lines_there, words_there, drop_end}

pub line_not_number : (n id : ℕ) (first : List ℕ) (ws : List (List ℕ)) → same_bytes first (decimal id) ≡ false → line_of n id (first ∷ ws) ≡ Err (BadNumber n)
line_not_number n id first [] e = refl
line_not_number n id first (second ∷ ws) e = ap (λ b. cond b (after_letter n (kind_of second) ws) (Err (BadNumber n))) e

pub line_no_kind : (n id : ℕ) (first second : List ℕ) (ws : List (List ℕ)) → kind_of second ≡ None → line_of n id (first ∷ second ∷ ws) ≡ Err (BadNumber n)
line_no_kind n id first second ws e = ap (λ k. cond (same_bytes first (decimal id)) (after_letter n k ws) (Err (BadNumber n))) e ∙ both (same_bytes first (decimal id))
  where
    both : (b : Bool) → cond {A = Result LogLine LogFault} b (Err (BadNumber n)) (Err (BadNumber n)) ≡ Err (BadNumber n)
    both true = refl
    both false = refl

pub line_kind : (n id : ℕ) (first second : List ℕ) (ws : List (List ℕ)) (kind : LineKind) → same_bytes first (decimal id) ≡ true → kind_of second ≡ Some kind → line_of n id (first ∷ second ∷ ws) ≡ after_letter n (Some kind) ws
line_kind n id first second ws kind e f =
    ap (λ b. cond b (after_letter n (kind_of second) ws) (Err (BadNumber n))) e ∙ ap (λ k. after_letter n k ws) f

-- the first line of a text
pub read_first : (text first : List ℕ) (b : Bool) → first ≡ take (piece_len 10 (drop 0 text)) (drop 0 text) → length first ≡ piece_len 10 (drop 0 text) → b ≡ is_header (words first) → read_page (page text) ≡ cond b (read_rest [] (map words (lines_of (drop (length first + 1) text)))) (Err (BadNumber 1))
read_first [] first b piece len header =
    let none : first ≡ [] = piece in
    let no : false ≡ b = sym (header ∙ ap (λ f. is_header (words f)) none) in
    ap (λ b. cond b (read_rest [] (map words (lines_of (drop (length first + 1) [])))) (Err (BadNumber 1))) no
read_first (c ∷ text) first b piece len header =
    ap (λ ls. read_page (map words ls)) (lines_step (c ∷ text) first 0 (length first + 1) (omega arith) piece len (omega arith)) ∙ ap (λ b. cond b (read_rest [] (map words (lines_of (drop (length first + 1) (c ∷ text))))) (Err (BadNumber 1))) (sym header)

-- the next line of a text
pub read_step : (log : List LogLine) (text line : List ℕ) (at next : ℕ) → at < length text → line ≡ take (piece_len 10 (drop at text)) (drop at text) → length line ≡ piece_len 10 (drop at text) → next ≡ at + (length line + 1) → read_rest log (map words (lines_of (drop at text))) ≡ end_or (end_of (words line)) (λ n. at_end log n (map words (lines_of (drop next text)))) (then_read (with_words log (line_of (length log + 2) (length log + 1) (words line))) (λ longer. read_rest longer (map words (lines_of (drop next text)))))
read_step log text line at next h piece len place = ap (λ ls. read_rest log (map words ls)) (lines_step text line at next h piece len place)

-- a fault of the next line is the fault of the text
pub err_answer : (log : List LogLine) (fault : LogFault) (wanted r : Result (List LogLine) LogFault) (next : List LogLine → Result (List LogLine) LogFault) → IsLogAnswer log (Err fault) wanted → r ≡ then_read wanted next → IsAnswer {L = List LogLine} (Err fault) r
err_answer log (BadNumber n) wanted r next a e = e ∙ ap (λ w. then_read w next) a
err_answer log (MissingZero n) wanted r next a e = e ∙ ap (λ w. then_read w next) a
err_answer log (BadHint n) wanted r next a e = e ∙ ap (λ w. then_read w next) a
err_answer log (NotAccepted n) wanted r next a e = e ∙ ap (λ w. then_read w next) a
err_answer log Truncated wanted r next a e = e ∙ ap (λ w. then_read w next) a
err_answer log (NoMemory m) wanted r next a e = tt

-- the next line is not the last, and is one of the log
pub step_more : (log longer : List LogLine) (text line : List ℕ) (at next : ℕ) (r : Result (List LogLine) LogFault) → r ≡ read_rest log (map words (lines_of (drop at text))) → at < length text → line ≡ take (piece_len 10 (drop at text)) (drop at text) → length line ≡ piece_len 10 (drop at text) → next ≡ at + (length line + 1) → end_of (words line) ≡ None → with_words log (line_of (length log + 2) (length log + 1) (words line)) ≡ Ok longer → r ≡ read_rest longer (map words (lines_of (drop next text)))
step_more log longer text line at next r e h piece len place none more =
    e ∙ read_step log text line at next h piece len place
    ∙ ap (λ o. end_or o (λ n. at_end log n (map words (lines_of (drop next text)))) (then_read (with_words log (line_of (length log + 2) (length log + 1) (words line))) (λ longer. read_rest longer (map words (lines_of (drop next text)))))) none
    ∙ ap (λ w. then_read w (λ longer. read_rest longer (map words (lines_of (drop next text))))) more

-- the next line is not the last, and has a fault
pub step_err : (log new : List LogLine) (text line : List ℕ) (at next : ℕ) (r : Result (List LogLine) LogFault) (fault : LogFault) → r ≡ read_rest log (map words (lines_of (drop at text))) → at < length text → line ≡ take (piece_len 10 (drop at text)) (drop at text) → length line ≡ piece_len 10 (drop at text) → next ≡ at + (length line + 1) → end_of (words line) ≡ None → IsLogAnswer new (Err fault) (with_words log (line_of (length log + 2) (length log + 1) (words line))) → IsAnswer {L = List LogLine} (Err fault) r
step_err log new text line at next r fault e h piece len place none err =
    err_answer new fault (with_words log (line_of (length log + 2) (length log + 1) (words line))) r (λ longer. read_rest longer (map words (lines_of (drop next text)))) err
    (e ∙ read_step log text line at next h piece len place
    ∙ ap (λ o. end_or o (λ n. at_end log n (map words (lines_of (drop next text)))) (then_read (with_words log (line_of (length log + 2) (length log + 1) (words line))) (λ longer. read_rest longer (map words (lines_of (drop next text)))))) none)

-- the next line is the last
pub step_end : (log : List LogLine) (text line : List ℕ) (at next count : ℕ) (r : Result (List LogLine) LogFault) → r ≡ read_rest log (map words (lines_of (drop at text))) → at < length text → line ≡ take (piece_len 10 (drop at text)) (drop at text) → length line ≡ piece_len 10 (drop at text) → next ≡ at + (length line + 1) → end_of (words line) ≡ Some count → r ≡ at_end log count (map words (lines_of (drop next text)))
step_end log text line at next count r e h piece len place end =
    e ∙ read_step log text line at next h piece len place
    ∙ ap (λ o. end_or o (λ n. at_end log n (map words (lines_of (drop next text)))) (then_read (with_words log (line_of (length log + 2) (length log + 1) (words line))) (λ longer. read_rest longer (map words (lines_of (drop next text)))))) end

-- the answer at the last line, whether or not more stands behind it
pub end_answer : (log : List LogLine) (text : List ℕ) (next count : ℕ) (more : Bool) (x : Result (List LogLine) LogFault) (r : Result (List LogLine) LogFault) → r ≡ at_end log count (map words (lines_of (drop next text))) → more ≡ ltb next (length text) → (more ≡ false → IsAnswer x (at_end log count [])) → ((line : List (List ℕ)) (rest : List (List (List ℕ))) → more ≡ true → IsAnswer x (at_end log count (line ∷ rest))) → IsAnswer x r
end_answer log text next count more x r e test end further = by_place (cases_lt next (length text))
  where
    by_place : (next < length text) ⊎ (length text ≤ next) → IsAnswer x r
    by_place (inl inside) =
        let there = lines_there text next inside in
        subst (IsAnswer x) (sym (e ∙ ap (λ ls. at_end log count (map words ls)) there.2)) (further (words there.0) (map words there.1) (test ∙ lt-ltb next (length text) inside))
    by_place (inr past) =
        subst (IsAnswer x) (sym (e ∙ ap (λ t. at_end log count (map words (lines_of t))) (drop_end text next past))) (end (test ∙ le-ltb next (length text) past))

-- the hints of a line don't reach to its end
pub behind_more : (n : ℕ) (kind : LineKind) (rest rest' : List ℕ) (lits : List Literal) (taken : ℕ) (hints : List ℕ) (taken' : ℕ) → items literal_of n (words_after rest) ≡ Ok (lits, words_after (drop taken rest)) → rest' ≡ drop taken rest → hints_of n kind (words_after rest') ≡ Ok (hints, words_after (drop taken' rest')) → taken' < length rest' → after_letter n (Some kind) (words_after rest) ≡ Err (BadNumber n)
behind_more n kind rest rest' lits taken hints taken' e same f h =
    let more = words_there rest' taken' h in
    ap (after_literals n kind) e
    ∙ ap (λ t. whole_line n kind lits (hints_of n kind (words_after t))) (sym same)
    ∙ ap (whole_line n kind lits) (f ∙ ap (λ ws. Ok (hints, ws)) more.2)

pub err_as : (result : Result (List LogLine) LogFault) (x y : LogFault) (r : Result (List LogLine) LogFault) → result ≡ Err x → x ≡ y → IsAnswer {L = List LogLine} (Err y) r → IsAnswer result r
err_as result x y r e f a = subst (λ out. IsAnswer out r) (sym (e ∙ ap Err f)) a
