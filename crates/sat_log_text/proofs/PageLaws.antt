-- Reading the page of a log gives the log, and no other page does.
use Rattle.std.proofs.Common.{◌≡◌, ◌≢◌, ℕ, ◌+◌, ◌-◌, ◌<◌, ◌≤◌, ◌^◌, ◌⊎◌, inl, inr, Bool, true, false, not, cond, ◌&&◌, eqb, List, [], ◌∷◌, ◌++◌, length, get_or, map, refl, ap, sym, subst, ◌∙◌, append_assoc, length-append, arith, decimal}
use Rattle.std.specs.Prelude.{Option, Some, None, Result, Ok, Err, is_some, codes, slice_get}
use Rattle.std.specs.List.{AllByRecursion}
use Rattle.std.proofs.lemmas.Bool.{false≢true, eqb-true, eq-eqb, ne_eqb, cases_eq, and_parts}
use Rattle.std.proofs.lemmas.List.{append-nil}
use Rattle.sat_log.specs.Literal.{Literal, negated, IsVariable}
use Rattle.sat_log.specs.Clause.{AreLiterals}
use Rattle.sat_log.specs.Accepted.{hinted, clause_at, Refutes, Follows, IsOfKind, AreLines, IsLog}
use Rattle.sat_log.specs.Checking.{can_assume, is_end}
use Rattle.sat_log_text.specs.LogText.{literal_word, zero_word, letter, hint_words, line_words, clause_lines, header, end_words, log_page}
use Rattle.sat_log_text.specs.Reading.{same_bytes, number_of, literal_if, literal_of, item_then, items, kind_of, whole_line, hints_of, after_literals, after_letter, line_of, end_of, all_named, is_nil, may_follow, with_line, with_words, at_end, then_read, end_or, read_rest, is_header, read_page}
use Rattle.sat_log_text.specs.TextFault.{IsWritable, IsLineOf}
use Rattle.sat_log.specs.declared.line.LineKind.{LineKind}
use Rattle.sat_log.specs.declared.line.LineKind.TheVariants.{Original, Conflict, Final}
use Rattle.sat_log.specs.declared.line.LogLine.{LogLine}
use Rattle.sat_log_text.specs.declared.fault.LogFault.{LogFault}
use Rattle.sat_log_text.specs.declared.fault.LogFault.TheVariants.{BadNumber, BadHint, NotAccepted, Truncated}
use Rattle.sat_log.proofs.LogLemmas.{log_push}
use Rattle.sat_log_text.proofs.NumberLemmas.{same_bytes_refl, same_bytes_same, number_of-decimal, number_of-sound}
use Rattle.sat_log.proofs.Decided.{accepts_sound, accepts_complete, distinct_sound, distinct_complete}
use Rattle.std.specs.Option.{option_and_then}
use Rattle.std.proofs.lemmas.Option.{slice_get_within}
use Rattle.std.proofs.lemmas.Fmt.{decimal_is_IsNumeral, first_decimal, decimal_digit}

some_same : {A : Type 0} (a b : A) → Some a ≡ Some b → a ≡ b
some_same a b e = cc

-- Literals as words.

literal_if-sound : (negative : Bool) (o : Option ℕ) (l : Literal) → literal_if negative o ≡ Some l → (n : ℕ) × (o ≡ Some n) × (n ≢ 0) × (l.var ≡ n) × (l.negative ≡ negative)
literal_if-sound negative None l e = cc
literal_if-sound negative (Some n) l e = by_zero (eqb n 0) refl e
  where
    by_zero : (b : Bool) → eqb n 0 ≡ b → cond b None (Some (record { var = n; negative = negative })) ≡ Some l → (m : ℕ) × (Some n ≡ Some m) × (m ≢ 0) × (l.var ≡ m) × (l.negative ≡ negative)
    by_zero true p e = cc
    by_zero false p e =
        let same : record { var = n; negative = negative } ≡ l = some_same' _ _ e in
        (n, refl, (λ zero_. false≢true (sym p ∙ eq-eqb n 0 zero_)), ap (λ (x : Literal). x.var) (sym same), ap (λ (x : Literal). x.negative) (sym same))
      where
        some_same' : (a b : Literal) → Some a ≡ Some b → a ≡ b
        some_same' a b e = cc

abbrev literal_with : ℕ → Bool → Literal
literal_with n negative = record { var = n; negative = negative }

word_is : (l : Literal) (negative : Bool) (n : ℕ) → l.negative ≡ negative → l.var ≡ n → literal_word l ≡ cond negative (45 ∷ decimal n) (decimal n)
word_is l negative n s v = ap (λ b. cond b (45 ∷ decimal l.var) (decimal l.var)) s ∙ ap (λ m. cond negative (45 ∷ decimal m) (decimal m)) v

literal_is : (l : Literal) (negative : Bool) → l.negative ≡ negative → Some (literal_with l.var negative) ≡ Some l
literal_is l negative s = ap (λ b. Some (literal_with l.var b)) (sym s)

number_if : (negative : Bool) (n : ℕ) → 1 ≤ n → literal_if negative (Some n) ≡ Some (literal_with n negative)
number_if negative n h =
    let other : n ≡ 0 → ⊥ = (λ e. absurd (omega arith)) in
    ap (λ b. cond b None (Some (literal_with n negative))) (ne_eqb n 0 other)

plain_word : (w : List ℕ) (n : ℕ) → w ≡ decimal n → 1 ≤ n → n < 2 ^ 63 → literal_of w ≡ Some (literal_with n false)
plain_word [] n e h small =
    let big : n < 2 ^ 64 = omega arith in
    let some : 0 < length (decimal n) = (decimal_is_IsNumeral n big).0.0 in
    let none : length (decimal n) ≡ 0 = sym (ap length e) in
    absurd (omega arith)
plain_word (b ∷ w) n e h small =
    let big : n < 2 ^ 64 = omega arith in
    let first : 48 < b = subst (λ d. 48 < get_or d 0 0) (sym e) (first_decimal n h big) in
    let other : b ≡ 45 → ⊥ = (λ same. absurd (omega arith)) in
    ap (λ c. cond c (literal_if true (number_of w)) (literal_if false (number_of (b ∷ w)))) (ne_eqb b 45 other)
    ∙ ap (λ d. literal_if false (number_of d)) e ∙ ap (literal_if false) (number_of-decimal n small) ∙ number_if false n h

pub literal_of-word : (l : Literal) → IsVariable l.var → literal_of (literal_word l) ≡ Some l
literal_of-word l h = by_sign l.negative refl
  where
    by_sign : (s : Bool) → l.negative ≡ s → literal_of (literal_word l) ≡ Some l
    by_sign true p =
        ap literal_of (word_is l true l.var p refl) ∙ ap (literal_if true) (number_of-decimal l.var h.1) ∙ number_if true l.var h.0 ∙ literal_is l true p
    by_sign false p =
        ap literal_of (word_is l false l.var p refl) ∙ plain_word (decimal l.var) l.var refl h.0 h.1 ∙ literal_is l false p

nonzero : (n : ℕ) → n ≢ 0 → 1 ≤ n
nonzero n h = by_size (cases_eq n 0)
  where
    by_size : (n ≡ 0) ⊎ (n ≡ 0 → ⊥) → 1 ≤ n
    by_size (inl e) = absurd (h e)
    by_size (inr ne) = omega arith

pub literal_of-sound : (word : List ℕ) (l : Literal) → literal_of word ≡ Some l → (word ≡ literal_word l) × IsVariable l.var
literal_of-sound [] l e = cc
literal_of-sound (b ∷ word) l e = by_sign (eqb b 45) refl e
  where
    good : (w : List ℕ) (n : ℕ) → number_of w ≡ Some n → n ≢ 0 → l.var ≡ n → (w ≡ decimal n) × IsVariable l.var
    good w n o ne v =
        let sound = number_of-sound w n o in
        (sound.0, (subst (λ m. 1 ≤ m) (sym v) (nonzero n ne), subst (λ m. m < 2 ^ 63) (sym v) sound.1))

    by_sign : (s : Bool) → eqb b 45 ≡ s → cond s (literal_if true (number_of word)) (literal_if false (number_of (b ∷ word))) ≡ Some l → (b ∷ word ≡ literal_word l) × IsVariable l.var
    by_sign true p e =
        let parts = literal_if-sound true (number_of word) l e in
        let found = good word parts.0 parts.1 parts.2 parts.3 in
        (ap (λ c. c ∷ word) (eqb-true b 45 p) ∙ ap (λ w. 45 ∷ w) found.0 ∙ sym (word_is l true parts.0 parts.4 parts.3), found.1)
    by_sign false p e =
        let parts = literal_if-sound false (number_of (b ∷ word)) l e in
        let found = good (b ∷ word) parts.0 parts.1 parts.2 parts.3 in
        (found.0 ∙ sym (word_is l false parts.0 parts.4 parts.3), found.1)

-- Items as words.

abbrev ok_of : {A : Type 0} → List A → List (List ℕ) → Result (List A × List (List ℕ)) LogFault
ok_of xs us = Ok (xs, us)

abbrev items_in : {A : Type 0} → Result (List A × List (List ℕ)) LogFault → List A
items_in (Ok read) = read.0
items_in (Err fault) = []

abbrev rest_in : {A : Type 0} → Result (List A × List (List ℕ)) LogFault → List (List ℕ)
rest_in (Ok read) = read.1
rest_in (Err fault) = []

pub ok_parts : {A : Type 0} (xs ys : List A) (us vs : List (List ℕ)) → ok_of xs us ≡ ok_of ys vs → (xs ≡ ys) × (us ≡ vs)
ok_parts xs ys us vs e = (ap items_in e, ap rest_in e)

pub items-sound : {A : Type 0} (of : List ℕ → Option A) (write : A → List ℕ) (Good : A → Type 0) (sound : (w : List ℕ) (x : A) → same_bytes w zero_word ≡ false → of w ≡ Some x → (w ≡ write x) × Good x) (n : ℕ) (ws : List (List ℕ)) (xs : List A) (rest : List (List ℕ)) → items of n ws ≡ Ok (xs, rest) → (ws ≡ map write xs ++ zero_word ∷ rest) × AllByRecursion Good xs
items-sound of write Good sound n [] xs rest e = cc
items-sound {A} of write Good sound n (w ∷ ws) xs rest e =
    by_zero (same_bytes w zero_word) refl (of w) refl (items of n ws) refl e (λ ys. items-sound of write Good sound n ws ys rest)
  where
    by_zero : (b : Bool) → same_bytes w zero_word ≡ b → (o : Option A) → of w ≡ o → (r : Result (List A × List (List ℕ)) LogFault) → items of n ws ≡ r → cond b (Ok ([], ws)) (item_then n o r) ≡ Ok (xs, rest) → ((ys : List A) → items of n ws ≡ Ok (ys, rest) → (ws ≡ map write ys ++ zero_word ∷ rest) × AllByRecursion Good ys) → (w ∷ ws ≡ map write xs ++ zero_word ∷ rest) × AllByRecursion Good xs
    by_zero true p o q r t e more =
        let parts = ok_parts [] xs ws rest e in
        let word : w ≡ zero_word = same_bytes_same w zero_word p in
        (ap (λ v. v ∷ ws) word ∙ ap (λ us. zero_word ∷ us) parts.1 ∙ ap (λ ys. map write ys ++ zero_word ∷ rest) parts.0, subst (AllByRecursion Good) parts.0 tt)
    by_zero false p None q r t e more = cc
    by_zero false p (Some x) q (Err f) t e more = cc
    by_zero false p (Some x) q (Ok read) t e more =
        let parts = ok_parts (x ∷ read.0) xs read.1 rest e in
        let here = sound w x p q in
        let behind = more read.0 (t ∙ ap (λ us. Ok (read.0, us)) parts.1) in
        (ap (λ v. v ∷ ws) here.0 ∙ ap (λ us. write x ∷ us) behind.0 ∙ ap (λ ys. map write ys ++ zero_word ∷ rest) parts.0, subst (AllByRecursion Good) parts.0 (here.1, behind.1))

pub items-written : {A : Type 0} (of : List ℕ → Option A) (write : A → List ℕ) (Good : A → Type 0) (read : (x : A) → Good x → of (write x) ≡ Some x) (other : (x : A) → Good x → same_bytes (write x) zero_word ≡ false) (n : ℕ) (xs : List A) (rest : List (List ℕ)) → AllByRecursion Good xs → items of n (map write xs ++ zero_word ∷ rest) ≡ Ok (xs, rest)
items-written of write Good read other n [] rest h = refl
items-written of write Good read other n (x ∷ xs) rest h =
    rw (other x h.0, read x h.0, items-written of write Good read other n xs rest h.1) refl

-- a hint's word
pub hint-sound : (w : List ℕ) (n : ℕ) → same_bytes w zero_word ≡ false → number_of w ≡ Some n → (w ≡ decimal n) × IsVariable n
hint-sound w n other e =
    let sound = number_of-sound w n e in
    let some : n ≢ 0 = (λ zero_. false≢true (sym other ∙ ap (λ v. same_bytes v zero_word) (sound.0 ∙ ap decimal zero_ ∙ decimal_digit 0 (omega arith)))) in
    (sound.0, (nonzero n some, sound.1))

pub literal-sound : (w : List ℕ) (l : Literal) → same_bytes w zero_word ≡ false → literal_of w ≡ Some l → (w ≡ literal_word l) × IsVariable l.var
literal-sound w l other e = literal_of-sound w l e

pub kind_of-sound : (w : List ℕ) (kind : LineKind) → kind_of w ≡ Some kind → w ≡ letter kind
kind_of-sound w kind e =
    by_letters (same_bytes w (codes "o")) (same_bytes w (codes "c")) (same_bytes w (codes "f")) refl refl refl e
  where
    by_letters : (o c f : Bool) → same_bytes w (codes "o") ≡ o → same_bytes w (codes "c") ≡ c → same_bytes w (codes "f") ≡ f → cond o (Some Original) (cond c (Some Conflict) (cond f (Some Final) None)) ≡ Some kind → w ≡ letter kind
    by_letters true c f p q r e = same_bytes_same w (codes "o") p ∙ ap letter (some_same Original kind e)
    by_letters false true f p q r e = same_bytes_same w (codes "c") q ∙ ap letter (some_same Conflict kind e)
    by_letters false false true p q r e = same_bytes_same w (codes "f") r ∙ ap letter (some_same Final kind e)
    by_letters false false false p q r e = cc

hints_of-sound : (n : ℕ) (kind : LineKind) (ws rest : List (List ℕ)) (hints : List ℕ) → hints_of n kind ws ≡ Ok (hints, rest) → (ws ≡ hint_words kind hints ++ rest) × AllByRecursion IsVariable hints × (kind ≡ Original → hints ≡ [])
hints_of-sound n Original ws rest hints e =
    let parts = ok_parts [] hints ws rest e in
    (parts.1, subst (AllByRecursion IsVariable) parts.0 tt, λ _. sym parts.0)
hints_of-sound n Conflict ws rest hints e =
    let found = items-sound number_of decimal IsVariable hint-sound n ws hints rest e in
    (found.0 ∙ sym (append_assoc (map decimal hints) (zero_word ∷ []) rest), found.1, λ k. cc)
hints_of-sound n Final ws rest hints e =
    let found = items-sound number_of decimal IsVariable hint-sound n ws hints rest e in
    (found.0 ∙ sym (append_assoc (map decimal hints) (zero_word ∷ []) rest), found.1, λ k. cc)

abbrev pub line_with : LineKind → List Literal → List ℕ → LogLine
line_with kind lits hints = record { kind = kind; lits = lits; hints = hints }

after_letter-sound : (n : ℕ) (kind : LineKind) (ws : List (List ℕ)) (line : LogLine) → after_letter n (Some kind) ws ≡ Ok line → (line.kind ≡ kind) × IsWritable line × (ws ≡ map literal_word line.lits ++ zero_word ∷ hint_words line.kind line.hints)
after_letter-sound n kind ws line e = by_items (items literal_of n ws) refl e
  where
    by_hints : (lits : List Literal) (rest : List (List ℕ)) → (ws ≡ map literal_word lits ++ zero_word ∷ rest) → AllByRecursion (λ l. IsVariable l.var) lits → (r : Result (List ℕ × List (List ℕ)) LogFault) → hints_of n kind rest ≡ r → whole_line n kind lits r ≡ Ok line → (line.kind ≡ kind) × IsWritable line × (ws ≡ map literal_word line.lits ++ zero_word ∷ hint_words line.kind line.hints)
    by_hints lits rest f good (Err fault) q e = cc
    by_hints lits rest f good (Ok (hints, w ∷ more)) q e = cc
    by_hints lits rest f good (Ok (hints, [])) q e =
        let found = hints_of-sound n kind rest [] hints q in
        let same : line_with kind lits hints ≡ line = cc in
        let writable : IsWritable (line_with kind lits hints) = record { literals = good; hints = found.1; unhinted = found.2 } in
        (ap (λ (x : LogLine). x.kind) (sym same), subst IsWritable same writable, f ∙ ap (λ t. map literal_word lits ++ zero_word ∷ t) (found.0 ∙ append-nil (hint_words kind hints)) ∙ ap (λ (x : LogLine). map literal_word x.lits ++ zero_word ∷ hint_words x.kind x.hints) same)

    by_items : (r : Result (List Literal × List (List ℕ)) LogFault) → items literal_of n ws ≡ r → after_literals n kind r ≡ Ok line → (line.kind ≡ kind) × IsWritable line × (ws ≡ map literal_word line.lits ++ zero_word ∷ hint_words line.kind line.hints)
    by_items (Err fault) q e = cc
    by_items (Ok read) q e =
        let found = items-sound literal_of literal_word (λ l. IsVariable l.var) literal-sound n ws read.0 read.1 q in
        by_hints read.0 read.1 found.0 found.1 (hints_of n kind read.1) refl e

-- what is read as a line of a log is one
pub line_of-sound : (n id : ℕ) (ws : List (List ℕ)) (line : LogLine) → line_of n id ws ≡ Ok line → IsLineOf id ws line
line_of-sound n id [] line e = cc
line_of-sound n id (first ∷ []) line e = cc
line_of-sound n id (first ∷ second ∷ ws) line e = by_words (same_bytes first (decimal id)) refl (kind_of second) refl e
  where
    by_words : (b : Bool) → same_bytes first (decimal id) ≡ b → (o : Option LineKind) → kind_of second ≡ o → cond b (after_letter n o ws) (Err (BadNumber n)) ≡ Ok line → IsLineOf id (first ∷ second ∷ ws) line
    by_words false p o q e = cc
    by_words true p None q e = cc
    by_words true p (Some kind) q e =
        let found = after_letter-sound n kind ws line e in
        let one : first ≡ decimal id = same_bytes_same first (decimal id) p in
        let two : second ≡ letter line.kind = kind_of-sound second kind q ∙ ap letter (sym found.0) in
        record { writable = found.1; words_are = ap (λ v. v ∷ second ∷ ws) one ∙ ap (λ v. decimal id ∷ v ∷ ws) two ∙ ap (λ us. decimal id ∷ letter line.kind ∷ us) found.2 }

-- The log with one line more.

abbrev pub ok_log : List LogLine → Result (List LogLine) LogFault
ok_log log = Ok log

same_log : (a b : List LogLine) → ok_log a ≡ ok_log b → a ≡ b
same_log a b e = cc

pub may_follow-sound : (kind : LineKind) (log : List LogLine) (line : LogLine) → may_follow kind log line ≡ true → IsOfKind kind log line
may_follow-sound Original log line e =
    let first = both_true (not (is_nil line.lits)) (is_end line.hints && can_assume [] line.lits) e in
    let rest = both_true (is_end line.hints) (can_assume [] line.lits) first.1 in
    record { nonempty = (λ none. false≢true (sym (ap (λ c. not (is_nil c)) none) ∙ first.0)); distinct = distinct_sound line.lits rest.1; unhinted = no_hints line.hints rest.0 }
  where
    both_true : (a b : Bool) → a && b ≡ true → (a ≡ true) × (b ≡ true)
    both_true true b e = (refl, e)
    both_true false b e = absurd (false≢true e)

    no_hints : (hints : List ℕ) → is_end hints ≡ true → hints ≡ []
    no_hints [] e = refl
    no_hints (x ∷ hints) e = absurd (false≢true e)
may_follow-sound Conflict log line e = accepts_sound log line e
may_follow-sound Final log line e = accepts_sound log line e

with_line-sound : (log longer : List LogLine) (line : LogLine) → AreLiterals line.lits → with_line log line ≡ Ok longer → Follows log line × (log ++ line ∷ [] ≡ longer)
with_line-sound log longer line literals e =
    by_tests (all_named log line.hints) (may_follow line.kind log line) refl e
  where
    by_tests : (a b : Bool) → may_follow line.kind log line ≡ b → cond a (cond b (Ok (log ++ line ∷ [])) (Err (NotAccepted (length log + 1)))) (Err (BadHint (length log + 2))) ≡ Ok longer → Follows log line × (log ++ line ∷ [] ≡ longer)
    by_tests false b q e = cc
    by_tests true false q e = cc
    by_tests true true q e = ((literals, may_follow-sound line.kind log line q), same_log _ _ e)

pub end_of-sound : (ws : List (List ℕ)) (n : ℕ) → end_of ws ≡ Some n → (ws ≡ end_words n) × (n < 2 ^ 63)
end_of-sound [] n e = cc
end_of-sound (first ∷ []) n e = cc
end_of-sound (first ∷ second ∷ third ∷ ws) n e = cc
end_of-sound (first ∷ second ∷ []) n e = by_word (same_bytes first (codes "end")) refl e
  where
    by_word : (b : Bool) → same_bytes first (codes "end") ≡ b → cond b (number_of second) None ≡ Some n → (first ∷ second ∷ [] ≡ end_words n) × (n < 2 ^ 63)
    by_word false p e = cc
    by_word true p e =
        let sound = number_of-sound second n e in
        (ap (λ v. v ∷ second ∷ []) (same_bytes_same first (codes "end") p) ∙ ap (λ v. codes "end" ∷ v ∷ []) sound.0, sound.1)

pub length-push : (log : List LogLine) (line : LogLine) → length (log ++ line ∷ []) ≡ length log + 1
length-push log line = length-append log (line ∷ [])

abbrev IsRest : List LogLine → List LogLine → List (List (List ℕ)) → Type 0
IsRest log whole rest =
    (more : List LogLine) × (whole ≡ log ++ more) × (rest ≡ clause_lines (length log + 1) more ++ end_words (length whole) ∷ []) × IsLog whole

abbrev no_lines : List (List (List ℕ))
no_lines = []

at_end-sound : (log whole : List LogLine) (n : ℕ) (rest : List (List (List ℕ))) → at_end log n rest ≡ ok_log whole → (n ≡ length log) × (rest ≡ []) × (log ≡ whole)
at_end-sound log whole n [] e = by_count (eqb n (length log)) refl e
  where
    by_count : (b : Bool) → eqb n (length log) ≡ b → cond b (ok_log log) (Err Truncated) ≡ ok_log whole → (n ≡ length log) × (no_lines ≡ []) × (log ≡ whole)
    by_count true p e = (eqb-true n (length log) p, refl, same_log log whole e)
    by_count false p e = cc
at_end-sound log whole n (ws ∷ rest) e = by_count (eqb n (length log)) e
  where
    by_count : (b : Bool) → cond b (Err (BadNumber (length log + 3))) (Err Truncated) ≡ ok_log whole → (n ≡ length log) × (ws ∷ rest ≡ []) × (log ≡ whole)
    by_count true e = cc
    by_count false e = cc

rest_end : (log whole : List LogLine) (ws : List (List ℕ)) (rest : List (List (List ℕ))) (n : ℕ) → IsLog log → end_of ws ≡ Some n → at_end log n rest ≡ ok_log whole → IsRest log whole (ws ∷ rest)
rest_end log whole ws rest n h end e =
    let last = at_end-sound log whole n rest e in
    let words = end_of-sound ws n end in
    ([], sym last.2 ∙ sym (append-nil log), ap (λ v. v ∷ rest) words.0 ∙ ap (λ r. end_words n ∷ r) last.1 ∙ ap (λ m. end_words m ∷ []) (last.0 ∙ ap length last.2), subst IsLog last.2 h)

rest_line : (log whole longer : List LogLine) (ws : List (List ℕ)) (rest : List (List (List ℕ))) (line : LogLine) → line_of (length log + 2) (length log + 1) ws ≡ Ok line → log ++ line ∷ [] ≡ longer → IsRest longer whole rest → IsRest log whole (ws ∷ rest)
rest_line log whole longer ws rest line read same (more, whole_is, rest_is, valid) =
    let words = (line_of-sound (length log + 2) (length log + 1) ws line read).words_are in
    let size : length longer + 1 ≡ length log + 1 + 1 = ap (λ n. n + 1) (ap length (sym same) ∙ length-push log line) in
    (line ∷ more, whole_is ∙ ap (λ l. l ++ more) (sym same) ∙ append_assoc log (line ∷ []) more, ap (λ v. v ∷ rest) words ∙ ap (λ r. line_words (length log + 1) line ∷ r) (rest_is ∙ ap (λ n. clause_lines n more ++ end_words (length whole) ∷ []) size), valid)

-- what is read behind a log is the rest of a longer log
read_rest-sound : (rest : List (List (List ℕ))) (log whole : List LogLine) → IsLog log → read_rest log rest ≡ ok_log whole → IsRest log whole rest
read_rest-sound [] log whole h e = cc
read_rest-sound (ws ∷ rest) log whole h e =
    by_end (end_of ws) refl (line_of (length log + 2) (length log + 1) ws) refl e (λ longer valid. read_rest-sound rest longer whole valid)
  where
    by_line : (line : LogLine) → line_of (length log + 2) (length log + 1) ws ≡ Ok line → (w : Result (List LogLine) LogFault) → with_line log line ≡ w → then_read w (λ longer. read_rest longer rest) ≡ ok_log whole → ((longer : List LogLine) → IsLog longer → read_rest longer rest ≡ ok_log whole → IsRest longer whole rest) → IsRest log whole (ws ∷ rest)
    by_line line p (Err fault) q e more = cc
    by_line line p (Ok longer) q e more =
        let literals = (line_of-sound (length log + 2) (length log + 1) ws line p).writable.literals in
        let found = with_line-sound log longer line literals q in
        rest_line log whole longer ws rest line p found.1 (more longer (subst IsLog found.1 (log_push log line h found.0)) e)

    by_end : (o : Option ℕ) → end_of ws ≡ o → (r : Result LogLine LogFault) → line_of (length log + 2) (length log + 1) ws ≡ r → end_or o (λ n. at_end log n rest) (then_read (with_words log r) (λ longer. read_rest longer rest)) ≡ ok_log whole → ((longer : List LogLine) → IsLog longer → read_rest longer rest ≡ ok_log whole → IsRest longer whole rest) → IsRest log whole (ws ∷ rest)
    by_end (Some n) p r q e more = rest_end log whole ws rest n h p e
    by_end None p (Err fault) q e more = cc
    by_end None p (Ok line) q e more = by_line line q (with_line log line) refl e more

pub is_header-sound : (ws : List (List ℕ)) → is_header ws ≡ true → ws ≡ header
is_header-sound [] e = absurd (false≢true e)
is_header-sound (first ∷ []) e = absurd (false≢true e)
is_header-sound (first ∷ second ∷ third ∷ ws) e = absurd (false≢true e)
is_header-sound (first ∷ second ∷ []) e =
    let both = and_parts (same_bytes first (codes "log")) (same_bytes second (codes "1")) e in
    ap (λ v. v ∷ second ∷ []) (same_bytes_same first (codes "log") both.0) ∙ ap (λ v. codes "log" ∷ v ∷ []) (same_bytes_same second (codes "1") both.1)

-- the page of a text that is read is that of the log
pub read_page-sound : (p : List (List (List ℕ))) (log : List LogLine) → read_page p ≡ Ok log → p ≡ log_page log
read_page-sound [] log e = cc
read_page-sound (ws ∷ rest) log e = by_header (is_header ws) refl e
  where
    by_header : (b : Bool) → is_header ws ≡ b → cond b (read_rest [] rest) (Err (BadNumber 1)) ≡ ok_log log → ws ∷ rest ≡ log_page log
    by_header false p e = cc
    by_header true p e =
        let found = read_rest-sound rest [] log (record { lines = tt }) e in
        ap (λ v. v ∷ rest) (is_header-sound ws p) ∙ ap (λ r. header ∷ r) (found.2 ∙ ap (λ more. clause_lines 1 more ++ end_words (length log) ∷ []) (sym found.1))

-- what is read of a page is a log
pub read_page-log : (p : List (List (List ℕ))) (log : List LogLine) → read_page p ≡ Ok log → IsLog log
read_page-log [] log e = cc
read_page-log (ws ∷ rest) log e = by_header (is_header ws) e
  where
    by_header : (b : Bool) → cond b (read_rest [] rest) (Err (BadNumber 1)) ≡ ok_log log → IsLog log
    by_header false e = cc
    by_header true e = (read_rest-sound rest [] log (record { lines = tt }) e).3

-- The page of a log is read as the log.

not_zero_word : (w : List ℕ) → (w ≡ zero_word → ⊥) → same_bytes w zero_word ≡ false
not_zero_word w other = by_value (same_bytes w zero_word) refl
  where
    by_value : (b : Bool) → same_bytes w zero_word ≡ b → same_bytes w zero_word ≡ false
    by_value true e = absurd (other (same_bytes_same w zero_word e))
    by_value false e = e

pub hint_other : (n : ℕ) → IsVariable n → same_bytes (decimal n) zero_word ≡ false
hint_other n h =
    not_zero_word (decimal n) (λ e. (let same : number_of (decimal n) ≡ number_of (decimal 0) = ap number_of (e ∙ sym (decimal_digit 0 (omega arith))) in
    let zero_ : n ≡ 0 = some_same n 0 (sym (number_of-decimal n h.1) ∙ same ∙ number_of-decimal 0 (omega arith)) in
    absurd (omega arith)))

pub literal_other : (l : Literal) → IsVariable l.var → same_bytes (literal_word l) zero_word ≡ false
literal_other l h =
    not_zero_word (literal_word l) (λ e. (let none : Some l ≡ None = sym (literal_of-word l h) ∙ ap literal_of e ∙ ap (literal_if false) zero_read in cc))
  where
    zero_read : number_of zero_word ≡ Some 0
    zero_read = ap number_of (sym (decimal_digit 0 (omega arith))) ∙ number_of-decimal 0 (omega arith)

pub hint_read : (n : ℕ) → IsVariable n → number_of (decimal n) ≡ Some n
hint_read n h = number_of-decimal n h.1

pub kind_of-letter : (kind : LineKind) → kind_of (letter kind) ≡ Some kind
kind_of-letter Original = refl
kind_of-letter Conflict = refl
kind_of-letter Final = refl

hints_written : (n : ℕ) (kind : LineKind) (hints : List ℕ) → AllByRecursion IsVariable hints → (kind ≡ Original → hints ≡ []) → hints_of n kind (hint_words kind hints) ≡ Ok (hints, [])
hints_written n Original hints good none = ap (λ h. ok_of h []) (sym (none refl))
hints_written n Conflict hints good none = items-written number_of decimal IsVariable hint_read hint_other n hints [] good
hints_written n Final hints good none = items-written number_of decimal IsVariable hint_read hint_other n hints [] good

-- a line of a log is read as it is
pub line_of-written : (n id : ℕ) (line : LogLine) → IsWritable line → line_of n id (line_words id line) ≡ Ok line
line_of-written n id line w =
    ap (λ b. cond b (after_letter n (kind_of (letter line.kind)) (map literal_word line.lits ++ zero_word ∷ hint_words line.kind line.hints)) (Err (BadNumber n))) (same_bytes_refl (decimal id))
    ∙ ap (λ k. after_letter n k (map literal_word line.lits ++ zero_word ∷ hint_words line.kind line.hints)) (kind_of-letter line.kind)
    ∙ ap (after_literals n line.kind) (items-written literal_of literal_word (λ l. IsVariable l.var) literal_of-word literal_other n line.lits (hint_words line.kind line.hints) w.literals)
    ∙ ap (whole_line n line.kind line.lits) (hints_written n line.kind line.hints w.hints w.unhinted)

-- The hints of an accepted line all name clauses.

refutes_named : (log : List LogLine) (set : List Literal) (hints : List ℕ) → Refutes log set hints → all_named log hints ≡ true
refutes_named log set [] r = absurd r
refutes_named log set (id ∷ []) (c, e, f) = ap (λ o. is_some o && true) e
refutes_named log set (id ∷ next ∷ ids) (c, u, e, unit, r) =
    ap (λ o. is_some o && all_named log (next ∷ ids)) e ∙ refutes_named log (set ++ u ∷ []) (next ∷ ids) r

pub kind_named : (kind : LineKind) (log : List LogLine) (line : LogLine) → IsOfKind kind log line → (all_named log line.hints ≡ true) × (may_follow kind log line ≡ true)
kind_named Original log line h =
    (ap (all_named log) h.unhinted, some_literal line.lits h.nonempty ∙ ap (λ e. is_end e && can_assume [] line.lits) h.unhinted ∙ distinct_complete line.lits h.distinct)
  where
    some_literal : (c : List Literal) → c ≢ [] → not (is_nil c) && (is_end line.hints && can_assume [] line.lits) ≡ is_end line.hints && can_assume [] line.lits
    some_literal [] ne = absurd (ne refl)
    some_literal (l ∷ c) ne = refl
kind_named Conflict log line h = (refutes_named log (map negated line.lits) line.hints h.refuted, accepts_complete log line h)
kind_named Final log line h = (refutes_named log (map negated line.lits) line.hints h.refuted, accepts_complete log line h)

with_line-written : (log : List LogLine) (line : LogLine) → Follows log line → with_line log line ≡ ok_log (log ++ line ∷ [])
with_line-written log line h =
    let both = kind_named line.kind log line h.1 in
    ap (λ b. cond b (cond (may_follow line.kind log line) (ok_log (log ++ line ∷ [])) (Err (NotAccepted (length log + 1)))) (Err (BadHint (length log + 2)))) both.0
    ∙ ap (λ b. cond b (ok_log (log ++ line ∷ [])) (Err (NotAccepted (length log + 1)))) both.1

-- a hint that names a clause is the id of a line
named_range : (log : List LogLine) (id : ℕ) (c : List Literal) → clause_at log id ≡ Some c → (1 ≤ id) × (id ≤ length log)
named_range log id c e = by_zero (eqb id 0) refl (slice_get log (id - 1)) refl e
  where
    by_zero : (b : Bool) → eqb id 0 ≡ b → (o : Option LogLine) → slice_get log (id - 1) ≡ o → option_and_then (λ line. hinted line.kind line.lits) (cond b None o) ≡ Some c → (1 ≤ id) × (id ≤ length log)
    by_zero true p o q e = cc
    by_zero false p None q e = cc
    by_zero false p (Some line) q e =
        let some : 1 ≤ id = nonzero id (λ zero_. false≢true (sym p ∙ eq-eqb id 0 zero_)) in
        let inside = slice_get_within log (id - 1) line q in
        (some, omega arith)

hints_small : (log : List LogLine) (set : List Literal) (hints : List ℕ) → length log < 2 ^ 63 → Refutes log set hints → AllByRecursion IsVariable hints
hints_small log set [] small r = absurd r
hints_small log set (id ∷ []) small (c, e, f) =
    let range = named_range log id c e in
    ((range.0, omega arith), tt)
hints_small log set (id ∷ next ∷ ids) small (c, u, e, unit, r) =
    let range = named_range log id c e in
    ((range.0, omega arith), hints_small log (set ++ u ∷ []) (next ∷ ids) small r)

kind_writable : (kind : LineKind) (log : List LogLine) (line : LogLine) → length log < 2 ^ 63 → IsOfKind kind log line → AllByRecursion IsVariable line.hints × (kind ≡ Original → line.hints ≡ [])
kind_writable Original log line small h = (subst (AllByRecursion IsVariable) (sym h.unhinted) tt, λ _. h.unhinted)
kind_writable Conflict log line small h = (hints_small log (map negated line.lits) line.hints small h.refuted, λ k. cc)
kind_writable Final log line small h = (hints_small log (map negated line.lits) line.hints small h.refuted, λ k. cc)

pub follows_writable : (log : List LogLine) (line : LogLine) → length log < 2 ^ 63 → Follows log line → IsWritable line
follows_writable log line small h =
    let parts = kind_writable line.kind log line small h.1 in
    record { literals = h.0; hints = parts.0; unhinted = parts.1 }

pub end_none : (a b : List ℕ) (lits : List Literal) (ws : List (List ℕ)) → end_of (a ∷ b ∷ (map literal_word lits ++ zero_word ∷ ws)) ≡ None
end_none a b [] ws = refl
end_none a b (l ∷ lits) ws = refl

-- the lines of a log are read one after another
pub read_rest-lines : (lines log : List LogLine) (rest : List (List (List ℕ))) → AreLines log lines → length log + length lines < 2 ^ 63 → read_rest log (clause_lines (length log + 1) lines ++ rest) ≡ read_rest (log ++ lines) rest
read_rest-lines [] log rest h small = ap (λ l. read_rest l rest) (sym (append-nil log))
read_rest-lines (line ∷ lines) log rest h small =
    let less : length log < 2 ^ 63 = omega arith in
    let longer = log ++ line ∷ [] in
    let size : length longer ≡ length log + 1 = length-push log line in
    let fits : length longer + length lines < 2 ^ 63 = omega arith in
    let words = clause_lines (length log + 1 + 1) lines ++ rest in
    let end = end_none (decimal (length log + 1)) (letter line.kind) line.lits (hint_words line.kind line.hints) in
    let read = line_of-written (length log + 2) (length log + 1) line (follows_writable log line less h.0) in
    ap (λ o. end_or o (λ n. at_end log n words) (then_read (with_words log (line_of (length log + 2) (length log + 1) (line_words (length log + 1) line))) (λ more. read_rest more words))) end
    ∙ ap (λ r. then_read (with_words log r) (λ more. read_rest more words)) read
    ∙ ap (λ r. then_read r (λ more. read_rest more words)) (with_line-written log line h.0)
    ∙ ap (λ n. read_rest longer (clause_lines n lines ++ rest)) (ap (λ n. n + 1) (sym size))
    ∙ read_rest-lines lines longer rest h.1 fits
    ∙ ap (λ l. read_rest l rest) (append_assoc log (line ∷ []) lines)

-- the page of a log is read as the log
pub read_page-written : (log : List LogLine) → IsLog log → length log < 2 ^ 63 → read_page (log_page log) ≡ Ok log
read_page-written log h small =
    read_rest-lines log [] (end_words (length log) ∷ []) h.lines (omega arith)
    ∙ ap (λ o. end_or o (λ n. at_end log n []) (then_read (with_words log (line_of (length log + 2) (length log + 1) (end_words (length log)))) (λ more. read_rest more []))) (number_of-decimal (length log) small)
    ∙ ap (λ b. cond b (ok_log log) (Err Truncated)) (eq-eqb (length log) (length log) refl)
