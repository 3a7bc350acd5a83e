-- What is read of a line is the clause that it writes, or the fault that it has.
use Rattle.std.proofs.Common.{◌≡◌, ℕ, ◌⊎◌, inl, inr, Bool, true, false, cond, List, [], ◌∷◌, ◌++◌, length, map, refl, ap, sym, subst, ◌∙◌, append_assoc, arith, decimal}
use Rattle.std.specs.Prelude.{Option, Some, None, Result, Ok, Err}
use Rattle.std.specs.List.{AllByRecursion}
use Rattle.std.proofs.lemmas.List.{append-nil}
use Rattle.sat_log.specs.Literal.{Literal, IsVariable}
use Rattle.sat_log_text.specs.LogText.{literal_word, zero_word, letter, hint_words}
use Rattle.sat_log_text.specs.Reading.{same_bytes, number_of, literal_of, item_then, items, kind_of, whole_line, hints_of, after_literals, after_letter, line_of}
use Rattle.sat_log_text.specs.TextFault.{IsWritable, IsLineOf, BeginsLine}
use Rattle.sat_log.specs.declared.line.LineKind.{LineKind}
use Rattle.sat_log.specs.declared.line.LineKind.TheVariants.{Original, Conflict, Final}
use Rattle.sat_log.specs.declared.line.LogLine.{LogLine}
use Rattle.sat_log_text.specs.declared.fault.LogFault.{LogFault}
use Rattle.sat_log_text.specs.declared.fault.LogFault.TheVariants.{BadNumber, MissingZero}
use Rattle.sat_log_text.proofs.NumberLemmas.{same_bytes_refl, same_bytes_same}
use Rattle.sat_log_text.proofs.PageLaws.{items-sound, literal-sound, hint-sound, literal_of-word, literal_other, hint_read, hint_other, kind_of-letter, kind_of-sound, line_with, line_of-sound}

-- Items of a list: what is read of a front of a list that can be written, and of any other words.

abbrev ItemsAt : (A : Type 0) → Type 0
ItemsAt A = Result (List A × List (List ℕ)) LogFault

abbrev missing : (A : Type 0) → ℕ → ItemsAt A
missing A n = Err (MissingZero n)

-- the words are a front of a list: its 0 is missing, or they go on behind it
items-front : {A : Type 0} (of : List ℕ → Option A) (write : A → List ℕ) (Good : A → Type 0) (read : (x : A) → Good x → of (write x) ≡ Some x) (other : (x : A) → Good x → same_bytes (write x) zero_word ≡ false) (n : ℕ) (xs : List A) (ws rest tail : List (List ℕ)) → AllByRecursion Good xs → ws ++ rest ≡ map write xs ++ zero_word ∷ tail → (items of n ws ≡ missing A n) ⊎ ((behind : List (List ℕ)) × (items of n ws ≡ Ok (xs, behind)) × (behind ++ rest ≡ tail))
items-front of write Good read other n xs [] rest tail h e = inl refl
items-front {A} of write Good read other n [] (w ∷ ws) rest tail h e =
    let first : w ≡ zero_word = cc in
    let behind : ws ++ rest ≡ tail = cc in
    inr (ws, ap (λ b. cond b (Ok ([], ws)) (item_then n (of w) (items of n ws))) (ap (λ v. same_bytes v zero_word) first), behind)
items-front {A} of write Good read other n (x ∷ xs) (w ∷ ws) rest tail h e =
    let first : w ≡ write x = cc in
    let behind : ws ++ rest ≡ map write xs ++ zero_word ∷ tail = cc in
    by_rest (ap (λ v. cond (same_bytes v zero_word) (Ok ([], ws)) (item_then n (of v) (items of n ws))) first ∙ ap (λ b. cond b (Ok ([], ws)) (item_then n (of (write x)) (items of n ws))) (other x h.0) ∙ ap (λ o. item_then n o (items of n ws)) (read x h.0)) (items-front of write Good read other n xs ws rest tail h.1 behind)
  where
    by_rest : items of n (w ∷ ws) ≡ item_then n (Some x) (items of n ws) → (items of n ws ≡ missing A n) ⊎ ((behind : List (List ℕ)) × (items of n ws ≡ Ok (xs, behind)) × (behind ++ rest ≡ tail)) → (items of n (w ∷ ws) ≡ missing A n) ⊎ ((behind : List (List ℕ)) × (items of n (w ∷ ws) ≡ Ok (x ∷ xs, behind)) × (behind ++ rest ≡ tail))
    by_rest step (inl m) = inl (step ∙ ap (item_then n (Some x)) m)
    by_rest step (inr (behind, m, f)) = inr (behind, step ∙ ap (item_then n (Some x)) m, f)

-- a fault of a list is in this line, and where its 0 is missing, all its words are items
items-fault : {A : Type 0} (of : List ℕ → Option A) (write : A → List ℕ) (Good : A → Type 0) (sound : (w : List ℕ) (x : A) → same_bytes w zero_word ≡ false → of w ≡ Some x → (w ≡ write x) × Good x) (n : ℕ) (ws : List (List ℕ)) (fault : LogFault) → items of n ws ≡ Err fault → (fault ≡ BadNumber n) ⊎ ((fault ≡ MissingZero n) × ((xs : List A) × (ws ≡ map write xs) × AllByRecursion Good xs))
items-fault of write Good sound n [] fault e = inr ((cc, ([], refl, tt)))
items-fault {A} of write Good sound n (w ∷ ws) fault e =
    by_first (same_bytes w zero_word) refl (of w) refl (items of n ws) refl e (items-fault of write Good sound n ws)
  where
    by_first : (b : Bool) → same_bytes w zero_word ≡ b → (o : Option A) → of w ≡ o → (r : ItemsAt A) → items of n ws ≡ r → cond b (Ok ([], ws)) (item_then n o r) ≡ Err fault → ((f : LogFault) → items of n ws ≡ Err f → (f ≡ BadNumber n) ⊎ ((f ≡ MissingZero n) × ((xs : List A) × (ws ≡ map write xs) × AllByRecursion Good xs))) → (fault ≡ BadNumber n) ⊎ ((fault ≡ MissingZero n) × ((xs : List A) × (w ∷ ws ≡ map write xs) × AllByRecursion Good xs))
    by_first true p o q r t e more = cc
    by_first false p None q r t e more = inl cc
    by_first false p (Some x) q (Ok read) t e more = cc
    by_first false p (Some x) q (Err f) t e more =
        let same : f ≡ fault = cc in
        by_rest (more fault (t ∙ ap Err same)) (sound w x p q)
      where
        by_rest : (fault ≡ BadNumber n) ⊎ ((fault ≡ MissingZero n) × ((xs : List A) × (ws ≡ map write xs) × AllByRecursion Good xs)) → (w ≡ write x) × Good x → (fault ≡ BadNumber n) ⊎ ((fault ≡ MissingZero n) × ((xs : List A) × (w ∷ ws ≡ map write xs) × AllByRecursion Good xs))
        by_rest (inl m) here = inl m
        by_rest (inr (m, (xs, e, good))) here =
            inr (m, (x ∷ xs, ap (λ v. v ∷ ws) here.0 ∙ ap (λ us. write x ∷ us) e, (here.1, good)))

-- A line that begins a line of a clause is one, or a 0 is missing in it.

abbrev pub ReadsOrOpen : ℕ → Result LogLine LogFault → Type 0
ReadsOrOpen n r = (r ≡ Err (MissingZero n)) ⊎ ((line : LogLine) × (r ≡ Ok line))

list_front : (n : ℕ) (kind : LineKind) (lits : List Literal) (hints : List ℕ) (ws rest : List (List ℕ)) → AllByRecursion IsVariable hints → ws ++ rest ≡ map decimal hints ++ zero_word ∷ [] → ReadsOrOpen n (whole_line n kind lits (items number_of n ws))
list_front n kind lits hints ws rest h e =
    by_list (items-front number_of decimal IsVariable hint_read hint_other n hints ws rest [] h e)
  where
    by_list : (items number_of n ws ≡ missing ℕ n) ⊎ ((behind : List (List ℕ)) × (items number_of n ws ≡ Ok (hints, behind)) × (behind ++ rest ≡ [])) → ReadsOrOpen n (whole_line n kind lits (items number_of n ws))
    by_list (inl m) = inl (ap (whole_line n kind lits) m)
    by_list (inr ([], m, f)) = inr (line_with kind lits hints, ap (whole_line n kind lits) m)
    by_list (inr (v ∷ behind, m, f)) = cc

hints_front : (n : ℕ) (kind : LineKind) (lits : List Literal) (hints : List ℕ) (ws rest : List (List ℕ)) → AllByRecursion IsVariable hints → ws ++ rest ≡ hint_words kind hints → ReadsOrOpen n (whole_line n kind lits (hints_of n kind ws))
hints_front n Original lits hints [] rest h e = inr (line_with Original lits [], refl)
hints_front n Original lits hints (w ∷ ws) rest h e = cc
hints_front n Conflict lits hints ws rest h e = list_front n Conflict lits hints ws rest h e
hints_front n Final lits hints ws rest h e = list_front n Final lits hints ws rest h e

letter_front : (n : ℕ) (line : LogLine) (ws rest : List (List ℕ)) → IsWritable line → ws ++ rest ≡ map literal_word line.lits ++ zero_word ∷ hint_words line.kind line.hints → ReadsOrOpen n (after_letter n (Some line.kind) ws)
letter_front n line ws rest w e =
    by_literals (items-front literal_of literal_word (λ l. IsVariable l.var) literal_of-word literal_other n line.lits ws rest (hint_words line.kind line.hints) w.literals e)
  where
    by_literals : (items literal_of n ws ≡ missing Literal n) ⊎ ((behind : List (List ℕ)) × (items literal_of n ws ≡ Ok (line.lits, behind)) × (behind ++ rest ≡ hint_words line.kind line.hints)) → ReadsOrOpen n (after_letter n (Some line.kind) ws)
    by_literals (inl m) = inl (ap (after_literals n line.kind) m)
    by_literals (inr (behind, m, f)) =
        subst (ReadsOrOpen n) (sym (ap (after_literals n line.kind) m)) (hints_front n line.kind line.lits line.hints behind rest w.hints f)

pub begun_read : (n id : ℕ) (ws : List (List ℕ)) → BeginsLine id ws → ReadsOrOpen n (line_of n id ws)
begun_read n id [] b = absurd (omega (arith, b.enough))
begun_read n id (first ∷ []) b = absurd (omega (arith, b.enough))
begun_read n id (first ∷ second ∷ ws) b =
    let words = b.words_are in
    let one : first ≡ decimal id = cc in
    let two : second ≡ letter b.line.kind = cc in
    let behind : ws ++ b.rest ≡ map literal_word b.line.lits ++ zero_word ∷ hint_words b.line.kind b.line.hints = cc in
    let step : line_of n id (first ∷ second ∷ ws) ≡ after_letter n (Some b.line.kind) ws = ap (λ v. cond (same_bytes v (decimal id)) (after_letter n (kind_of second) ws) (Err (BadNumber n))) one ∙ ap (λ t. cond t (after_letter n (kind_of second) ws) (Err (BadNumber n))) (same_bytes_refl (decimal id)) ∙ ap (λ v. after_letter n (kind_of v) ws) two ∙ ap (λ k. after_letter n k ws) (kind_of-letter b.line.kind) in
    subst (ReadsOrOpen n) (sym step) (letter_front n b.line ws b.rest b.writable behind)

-- A fault of a line is one of its numbers and words, or a missing 0 in a line that is begun.

abbrev pub IsLineFault : ℕ → ℕ → List (List ℕ) → LogFault → Type 0
IsLineFault n id ws fault = (fault ≡ BadNumber n) ⊎ ((fault ≡ MissingZero n) × BeginsLine id ws)

abbrev IsHintsFault : ℕ → LineKind → List (List ℕ) → LogFault → Type 0
IsHintsFault n kind ws fault =
    (fault ≡ BadNumber n) ⊎ ((fault ≡ MissingZero n) × ((hints : List ℕ) × (rest : List (List ℕ)) × AllByRecursion IsVariable hints × (kind ≡ Original → hints ≡ []) × (ws ++ rest ≡ hint_words kind hints)))

list_fault : (n : ℕ) (kind : LineKind) (lits : List Literal) (ws : List (List ℕ)) (fault : LogFault) → whole_line n kind lits (items number_of n ws) ≡ Err fault → (fault ≡ BadNumber n) ⊎ ((fault ≡ MissingZero n) × ((hints : List ℕ) × (ws ≡ map decimal hints) × AllByRecursion IsVariable hints))
list_fault n kind lits ws fault e =
    by_list (items number_of n ws) refl e (items-fault number_of decimal IsVariable hint-sound n ws)
  where
    by_list : (r : ItemsAt ℕ) → items number_of n ws ≡ r → whole_line n kind lits r ≡ Err fault → ((f : LogFault) → items number_of n ws ≡ Err f → (f ≡ BadNumber n) ⊎ ((f ≡ MissingZero n) × ((hints : List ℕ) × (ws ≡ map decimal hints) × AllByRecursion IsVariable hints))) → (fault ≡ BadNumber n) ⊎ ((fault ≡ MissingZero n) × ((hints : List ℕ) × (ws ≡ map decimal hints) × AllByRecursion IsVariable hints))
    by_list (Ok (hints, [])) q e found = cc
    by_list (Ok (hints, v ∷ more)) q e found = inl cc
    by_list (Err f) q e found = found fault (q ∙ ap Err same)
      where
        same : f ≡ fault
        same = cc

hints_fault : (n : ℕ) (kind : LineKind) (lits : List Literal) (ws : List (List ℕ)) (fault : LogFault) → whole_line n kind lits (hints_of n kind ws) ≡ Err fault → IsHintsFault n kind ws fault
hints_fault n kind lits ws fault e = by_kind kind e
  where
    with_zero : (kind : LineKind) → (kind ≡ Original → ⊥) → ((hints : List ℕ) → hint_words kind hints ≡ map decimal hints ++ zero_word ∷ []) → (fault ≡ BadNumber n) ⊎ ((fault ≡ MissingZero n) × ((hints : List ℕ) × (ws ≡ map decimal hints) × AllByRecursion IsVariable hints)) → IsHintsFault n kind ws fault
    with_zero kind other words (inl m) = inl m
    with_zero kind other words (inr (m, (hints, g, good))) =
        inr (m, (hints, zero_word ∷ [], good, (λ k. absurd (other k)), ap (λ us. us ++ zero_word ∷ []) g ∙ sym (words hints)))

    by_kind : (kind : LineKind) → whole_line n kind lits (hints_of n kind ws) ≡ Err fault → IsHintsFault n kind ws fault
    by_kind Original e = by_words ws e
      where
        by_words : (vs : List (List ℕ)) → whole_line n Original lits (Ok ([], vs)) ≡ Err fault → IsHintsFault n Original ws fault
        by_words [] e = cc
        by_words (v ∷ vs) e = inl cc
    by_kind Conflict e = with_zero Conflict (λ k. cc) (λ hints. refl) (list_fault n Conflict lits ws fault e)
    by_kind Final e = with_zero Final (λ k. cc) (λ hints. refl) (list_fault n Final lits ws fault e)

abbrev IsBehindFault : ℕ → LineKind → List (List ℕ) → LogFault → Type 0
IsBehindFault n kind ws fault =
    (fault ≡ BadNumber n) ⊎ ((fault ≡ MissingZero n) × ((line : LogLine) × (rest : List (List ℕ)) × (line.kind ≡ kind) × IsWritable line × (ws ++ rest ≡ map literal_word line.lits ++ zero_word ∷ hint_words line.kind line.hints)))

literals_fault : (n : ℕ) (kind : LineKind) (ws : List (List ℕ)) (fault : LogFault) → after_letter n (Some kind) ws ≡ Err fault → IsBehindFault n kind ws fault
literals_fault n kind ws fault e =
    by_list (items literal_of n ws) refl e
  where
    open_literals : (fault ≡ BadNumber n) ⊎ ((fault ≡ MissingZero n) × ((lits : List Literal) × (ws ≡ map literal_word lits) × AllByRecursion (λ l. IsVariable l.var) lits)) → IsBehindFault n kind ws fault
    open_literals (inl m) = inl m
    open_literals (inr (m, (lits, g, good))) =
        inr (m, (line_with kind lits [], zero_word ∷ hint_words kind [], refl, record { literals = good; hints = tt; unhinted = (λ k. refl) }, ap (λ us. us ++ zero_word ∷ hint_words kind []) g))

    open_hints : (lits : List Literal) (rest : List (List ℕ)) → (ws ≡ map literal_word lits ++ zero_word ∷ rest) × AllByRecursion (λ l. IsVariable l.var) lits → IsHintsFault n kind rest fault → IsBehindFault n kind ws fault
    open_hints lits rest found (inl m) = inl m
    open_hints lits rest found (inr (m, (hints, more, good, none, g))) =
        inr (m, (line_with kind lits hints, more, refl, record { literals = found.1; hints = good; unhinted = none }, ap (λ us. us ++ more) found.0 ∙ append_assoc (map literal_word lits) (zero_word ∷ rest) more ∙ ap (λ us. map literal_word lits ++ zero_word ∷ us) g))

    by_list : (r : ItemsAt Literal) → items literal_of n ws ≡ r → after_literals n kind r ≡ Err fault → IsBehindFault n kind ws fault
    by_list (Ok read) q e =
        open_hints read.0 read.1 (items-sound literal_of literal_word (λ l. IsVariable l.var) literal-sound n ws read.0 read.1 q) (hints_fault n kind read.0 read.1 fault e)
    by_list (Err f) q e =
        open_literals (items-fault literal_of literal_word (λ l. IsVariable l.var) literal-sound n ws fault (q ∙ ap Err same))
      where
        same : f ≡ fault
        same = cc

pub line_fault : (n id : ℕ) (ws : List (List ℕ)) (fault : LogFault) → line_of n id ws ≡ Err fault → IsLineFault n id ws fault
line_fault n id [] fault e = inl cc
line_fault n id (first ∷ []) fault e = inl cc
line_fault n id (first ∷ second ∷ ws) fault e = by_words (same_bytes first (decimal id)) refl (kind_of second) refl e
  where
    begun : (kind : LineKind) → first ≡ decimal id → second ≡ letter kind → IsBehindFault n kind ws fault → IsLineFault n id (first ∷ second ∷ ws) fault
    begun kind one two (inl m) = inl m
    begun kind one two (inr (m, (line, rest, k, w, g))) =
        inr (m, record { line = line; rest = rest; writable = w; words_are = ap (λ v. v ∷ second ∷ (ws ++ rest)) one ∙ ap (λ v. decimal id ∷ v ∷ (ws ++ rest)) (two ∙ ap letter (sym k)) ∙ ap (λ us. decimal id ∷ letter line.kind ∷ us) g; enough = omega arith })

    by_words : (b : Bool) → same_bytes first (decimal id) ≡ b → (o : Option LineKind) → kind_of second ≡ o → cond b (after_letter n o ws) (Err (BadNumber n)) ≡ Err fault → IsLineFault n id (first ∷ second ∷ ws) fault
    by_words false p o q e = inl cc
    by_words true p None q e = inl cc
    by_words true p (Some kind) q e =
        begun kind (same_bytes_same first (decimal id) p) (kind_of-sound second kind q) (literals_fault n kind ws fault e)

whole_begins : (id : ℕ) (ws : List (List ℕ)) (line : LogLine) → IsLineOf id ws line → BeginsLine id ws
whole_begins id ws line h =
    record { line = line; rest = []; writable = h.writable; words_are = append-nil ws ∙ h.words_are; enough = omega (arith, ap length h.words_are) }

-- words that begin no line of a clause
pub line_bad : (n id : ℕ) (ws : List (List ℕ)) → ¬ BeginsLine id ws → line_of n id ws ≡ Err (BadNumber n)
line_bad n id ws none = by_read (line_of n id ws) refl
  where
    by_fault : (fault : LogFault) → IsLineFault n id ws fault → line_of n id ws ≡ Err fault → line_of n id ws ≡ Err (BadNumber n)
    by_fault fault (inl m) q = q ∙ ap Err m
    by_fault fault (inr (m, b)) q = absurd (none b)

    by_read : (r : Result LogLine LogFault) → line_of n id ws ≡ r → line_of n id ws ≡ Err (BadNumber n)
    by_read (Ok line) q = absurd (none (whole_begins id ws line (line_of-sound n id ws line q)))
    by_read (Err fault) q = by_fault fault (line_fault n id ws fault q) q

-- words that begin a line and are no whole one
pub line_open : (n id : ℕ) (ws : List (List ℕ)) → BeginsLine id ws → ((line : LogLine) → ¬ IsLineOf id ws line) → line_of n id ws ≡ Err (MissingZero n)
line_open n id ws b none = by_read (begun_read n id ws b)
  where
    by_read : ReadsOrOpen n (line_of n id ws) → line_of n id ws ≡ Err (MissingZero n)
    by_read (inl m) = m
    by_read (inr (line, m)) = absurd (none line (line_of-sound n id ws line m))
