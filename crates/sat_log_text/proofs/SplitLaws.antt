-- A text is what its lines and their words make, and the other way round.
use Rattle.std.proofs.Common.{◌≡◌, ◌≢◌, ℕ, ◌+◌, ◌<◌, ◌≤◌, ◌^◌, ◌⊎◌, inl, inr, Bool, true, false, cond, eqb, List, [], ◌∷◌, ◌++◌, length, map, refl, ap, sym, ◌∙◌, append_assoc, length-append, arith, decimal}
use Rattle.std.specs.List.{AllByRecursion, flat_map}
use Rattle.std.specs.Str.Parse.{AllDigits}
use Rattle.std.proofs.lemmas.Bool.{eqb-true, ne_eqb}
use Rattle.std.proofs.lemmas.List.{append-nil}
use Rattle.std.proofs.lemmas.Fmt.{decimal_is_IsNumeral}
use Rattle.std.proofs.lemmas.Str.Parse.{digit_from_value}
use Rattle.sat_log.specs.Literal.{Literal, IsVariable}
use Rattle.sat_log.specs.Accepted.{AreLines, IsLog}
use Rattle.text_lines.specs.Lines.{lines_of, onto_first}
use Rattle.sat_log_text.specs.Page.{words, page}
use Rattle.sat_log_text.specs.LogText.{spaced, line_text, literal_word, zero_word, letter, hint_words, line_words, clause_lines, header, end_words, log_page, text_of, IsTextOf}
use Rattle.sat_log_text.specs.TextFault.{IsWritable}
use Rattle.sat_log.specs.declared.line.LineKind.{LineKind}
use Rattle.sat_log.specs.declared.line.LineKind.TheVariants.{Original, Conflict, Final}
use Rattle.sat_log.specs.declared.line.LogLine.{LogLine}
use Rattle.sat_log_text.proofs.PageLaws.{follows_writable, length-push}

-- A line is made of its words, and a text of its lines.

line_in_first : (b : ℕ) (ws : List (List ℕ)) → ws ≢ [] → line_text (onto_first b ws) ≡ b ∷ line_text ws
line_in_first b [] some = absurd (some refl)
line_in_first b (w ∷ ws) some = refl

line_behind_blank : (ws : List (List ℕ)) → ws ≢ [] → line_text ([] ∷ ws) ≡ 32 ∷ line_text ws
line_behind_blank [] some = absurd (some refl)
line_behind_blank (w ∷ ws) some = simp append_assoc

words_some : (bytes : List ℕ) → words bytes ≢ []
words_some [] e = cc
words_some (b ∷ bytes) e = by_first (eqb b 32) (words bytes) e
  where
    by_first : (blank : Bool) (ws : List (List ℕ)) → cond blank ([] ∷ ws) (onto_first b ws) ≡ [] → ⊥
    by_first true ws e = cc
    by_first false [] e = cc
    by_first false (w ∷ ws) e = cc

line_of_words : (bytes : List ℕ) → line_text (words bytes) ≡ bytes ++ 10 ∷ []
line_of_words [] = refl
line_of_words (b ∷ bytes) = by_first (eqb b 32) refl (line_of_words bytes)
  where
    by_first : (blank : Bool) → eqb b 32 ≡ blank → line_text (words bytes) ≡ bytes ++ 10 ∷ [] → line_text (cond blank ([] ∷ words bytes) (onto_first b (words bytes))) ≡ b ∷ (bytes ++ 10 ∷ [])
    by_first true same rest =
        line_behind_blank (words bytes) (words_some bytes) ∙ ap (λ t. 32 ∷ t) rest ∙ ap (λ c. c ∷ (bytes ++ 10 ∷ [])) (sym (eqb-true b 32 same))
    by_first false same rest = line_in_first b (words bytes) (words_some bytes) ∙ ap (λ t. b ∷ t) rest

abbrev pub joined : List (List ℕ) → List ℕ
joined ls = flat_map (λ l. l ++ 10 ∷ []) ls

abbrev IsMadeOf : List (List ℕ) → List ℕ → Type 0
IsMadeOf ls text = (text ≡ joined ls) ⊎ (text ++ 10 ∷ [] ≡ joined ls)

made_in_first : (b : ℕ) (bytes : List ℕ) (ls : List (List ℕ)) → IsMadeOf ls bytes → IsMadeOf (onto_first b ls) (b ∷ bytes)
made_in_first b bytes [] (inl e) = inr (ap (λ t. b ∷ (t ++ 10 ∷ [])) e)
made_in_first b [] [] (inr e) = cc
made_in_first b (c ∷ bytes) [] (inr e) = cc
made_in_first b bytes (l ∷ ls) (inl e) = inl (ap (λ t. b ∷ t) e)
made_in_first b bytes (l ∷ ls) (inr e) = inr (ap (λ t. b ∷ t) e)

made_of_lines : (text : List ℕ) → IsMadeOf (lines_of text) text
made_of_lines [] = inl refl
made_of_lines (b ∷ text) = by_first (eqb b 10) refl (made_of_lines text)
  where
    by_first : (feed : Bool) → eqb b 10 ≡ feed → IsMadeOf (lines_of text) text → IsMadeOf (cond feed ([] ∷ lines_of text) (onto_first b (lines_of text))) (b ∷ text)
    by_first true same (inl e) = inl (ap (λ c. c ∷ text) (eqb-true b 10 same) ∙ ap (λ t. 10 ∷ t) e)
    by_first true same (inr e) =
        inr (ap (λ c. c ∷ (text ++ 10 ∷ [])) (eqb-true b 10 same) ∙ ap (λ t. 10 ∷ t) e)
    by_first false same rest = made_in_first b text (lines_of text) rest

lines_of_words : (ls : List (List ℕ)) → flat_map line_text (map words ls) ≡ joined ls
lines_of_words [] = refl
lines_of_words (l ∷ ls) =
    ap (λ t. t ++ flat_map line_text (map words ls)) (line_of_words l) ∙ ap (λ t. (l ++ 10 ∷ []) ++ t) (lines_of_words ls)

-- a text whose page is that of a log is the log's text
pub text_of_page : (text : List ℕ) (log : List LogLine) → page text ≡ log_page log → IsTextOf log text
text_of_page text log e = by_end (made_of_lines text)
  where
    whole : joined (lines_of text) ≡ text_of log
    whole = sym (lines_of_words (lines_of text)) ∙ ap (flat_map line_text) e

    by_end : IsMadeOf (lines_of text) text → IsTextOf log text
    by_end (inl made) = inl (made ∙ whole)
    by_end (inr made) = inr (made ∙ whole)

-- Lines of words give their page.

-- no blank and no line feed is in the word
abbrev pub IsWord : List ℕ → Type 0
IsWord w = AllByRecursion (λ b. 32 < b) w

abbrev HasNoFeed : List ℕ → Type 0
HasNoFeed l = AllByRecursion (λ b. 10 < b) l

abbrev pub HasWords : List (List ℕ) → Type 0
HasWords ws = (ws ≢ []) × AllByRecursion IsWord ws

no_blank : (b : ℕ) → 32 < b → eqb b 32 ≡ false
no_blank b h = ne_eqb b 32 (λ e. absurd (omega arith))

words_one : (w : List ℕ) → IsWord w → words w ≡ w ∷ []
words_one [] h = refl
words_one (b ∷ w) h = rw (no_blank b h.0, words_one w h.1) refl

words_then : (w rest : List ℕ) → IsWord w → words (w ++ 32 ∷ rest) ≡ w ∷ words rest
words_then [] rest h = refl
words_then (b ∷ w) rest h = rw (no_blank b h.0, words_then w rest h.1) refl

words_spaced : (w : List ℕ) (ws : List (List ℕ)) → IsWord w → AllByRecursion IsWord ws → words (w ++ spaced ws) ≡ w ∷ ws
words_spaced w [] h hs = ap words (append-nil w) ∙ words_one w h
words_spaced w (v ∷ ws) h hs = words_then w (v ++ spaced ws) h ∙ ap (λ us. w ∷ us) (words_spaced v ws hs.0 hs.1)

lines_then : (l rest : List ℕ) → HasNoFeed l → lines_of (l ++ 10 ∷ rest) ≡ l ∷ lines_of rest
lines_then [] rest h = refl
lines_then (b ∷ l) rest h =
    let other : b ≡ 10 → ⊥ = (λ e. absurd (omega (arith, h.0))) in
    rw (ne_eqb b 10 other, lines_then l rest h.1) refl

feed_word : (w rest : List ℕ) → IsWord w → HasNoFeed rest → HasNoFeed (w ++ rest)
feed_word [] rest h g = g
feed_word (b ∷ w) rest h g =
    let first : 32 < b = h.0 in
    (omega arith, feed_word w rest h.1 g)

feed_spaced : (ws : List (List ℕ)) → AllByRecursion IsWord ws → HasNoFeed (spaced ws)
feed_spaced [] h = tt
feed_spaced (w ∷ ws) h = (omega arith, feed_word w (spaced ws) h.0 (feed_spaced ws h.1))

page_written : (p : List (List (List ℕ))) → AllByRecursion HasWords p → page (flat_map line_text p) ≡ p
page_written [] h = refl
page_written ([] ∷ p) h = absurd (h.0.0 refl)
page_written ((w ∷ ws) ∷ p) h =
    let rest = flat_map line_text p in
    let pieces : (w ++ spaced ws ++ 10 ∷ []) ++ rest ≡ (w ++ spaced ws) ++ 10 ∷ rest = simp append_assoc in
    let good : HasNoFeed (w ++ spaced ws) = feed_word w (spaced ws) h.0.1.0 (feed_spaced ws h.0.1.1) in
    ap page pieces
    ∙ ap (map words) (lines_then (w ++ spaced ws) rest good)
    ∙ ap (λ us. us ∷ page rest) (words_spaced w ws h.0.1.0 h.0.1.1)
    ∙ ap (λ q. (w ∷ ws) ∷ q) (page_written p h.1)

-- The words of a log.

digit_word : (w : List ℕ) → AllDigits 10 w → IsWord w
digit_word [] h = tt
digit_word (b ∷ w) h =
    let range = digit_from_value b h.0 in
    (omega (arith, range), digit_word w h.1)

decimal_word : (n : ℕ) → n < 2 ^ 63 → IsWord (decimal n)
decimal_word n small =
    let big : n < 2 ^ 64 = omega arith in
    digit_word (decimal n) (decimal_is_IsNumeral n big).0.1

literal_word-word : (l : Literal) → IsVariable l.var → IsWord (literal_word l)
literal_word-word l h = by_sign l.negative
  where
    by_sign : (s : Bool) → IsWord (cond s (45 ∷ decimal l.var) (decimal l.var))
    by_sign true = (omega arith, decimal_word l.var h.1)
    by_sign false = decimal_word l.var h.1

zero_is_word : IsWord zero_word
zero_is_word = (omega arith, tt)

words_then_zero : {A : Type 0} (write : A → List ℕ) (Good : A → Type 0) → ((x : A) → Good x → IsWord (write x)) → (xs : List A) (rest : List (List ℕ)) → AllByRecursion Good xs → AllByRecursion IsWord rest → AllByRecursion IsWord (map write xs ++ zero_word ∷ rest)
words_then_zero write Good each [] rest h g = (zero_is_word, g)
words_then_zero write Good each (x ∷ xs) rest h g =
    (each x h.0, words_then_zero write Good each xs rest h.1 g)

letter_word : (kind : LineKind) → IsWord (letter kind)
letter_word Original = (omega arith, tt)
letter_word Conflict = (omega arith, tt)
letter_word Final = (omega arith, tt)

hint_words-words : (kind : LineKind) (hints : List ℕ) → AllByRecursion IsVariable hints → AllByRecursion IsWord (hint_words kind hints)
hint_words-words Original hints h = tt
hint_words-words Conflict hints h = words_then_zero decimal IsVariable (λ n v. decimal_word n v.1) hints [] h tt
hint_words-words Final hints h = words_then_zero decimal IsVariable (λ n v. decimal_word n v.1) hints [] h tt

line_has_words : (id : ℕ) (line : LogLine) → id < 2 ^ 63 → IsWritable line → HasWords (line_words id line)
line_has_words id line small w =
    ((λ e. cc), (decimal_word id small, (letter_word line.kind, words_then_zero literal_word (λ l. IsVariable l.var) literal_word-word line.lits (hint_words line.kind line.hints) w.literals (hint_words-words line.kind line.hints w.hints))))

lines_have_words : (lines before : List LogLine) (rest : List (List (List ℕ))) → AreLines before lines → length before + length lines + 1 < 2 ^ 63 → AllByRecursion HasWords rest → AllByRecursion HasWords (clause_lines (length before + 1) lines ++ rest)
lines_have_words [] before rest h small g = g
lines_have_words (line ∷ lines) before rest h small g =
    let longer = before ++ line ∷ [] in
    let size : length longer ≡ length before + 1 = length-push before line in
    let less : length before < 2 ^ 63 = omega arith in
    let behind = lines_have_words lines longer rest h.1 (omega arith) g in
    (line_has_words (length before + 1) line (omega arith) (follows_writable before line less h.0), rw (sym size) behind)

log_has_words : (log : List LogLine) → IsLog log → length log + 1 < 2 ^ 63 → AllByRecursion HasWords (log_page log)
log_has_words log h small =
    let first : HasWords header = ((λ e. cc), ((omega arith, (omega arith, (omega arith, tt))), ((omega arith, tt), tt))) in
    let last : HasWords (end_words (length log)) = ((λ e. cc), ((omega arith, (omega arith, (omega arith, tt))), (decimal_word (length log) (omega arith), tt))) in
    (first, lines_have_words log [] (end_words (length log) ∷ []) h.lines (omega arith) (last, tt))

-- A line feed at the end of a text either is one that it lacked or gives an empty line.

abbrev HasFeedOrLine : List ℕ → Type 0
HasFeedOrLine text =
    (lines_of (text ++ 10 ∷ []) ≡ lines_of text) ⊎ (lines_of (text ++ 10 ∷ []) ≡ lines_of text ++ [] ∷ [])

feed_or_line : (text : List ℕ) → HasFeedOrLine text
feed_or_line [] = inr refl
feed_or_line (b ∷ text) = by_first (eqb b 10) refl (lines_of text) refl (feed_or_line text)
  where
    by_first : (feed : Bool) → eqb b 10 ≡ feed → (ls : List (List ℕ)) → lines_of text ≡ ls → (lines_of (text ++ 10 ∷ []) ≡ lines_of text) ⊎ (lines_of (text ++ 10 ∷ []) ≡ lines_of text ++ [] ∷ []) → HasFeedOrLine (b ∷ text)
    by_first true same ls e (inl f) = inl (rw (same, f) refl)
    by_first true same ls e (inr f) = inr (rw (same, f) refl)
    by_first false same ls e (inl f) = inl (rw (same, f) refl)
    by_first false same [] e (inr f) = inl (rw (same, f, e) refl)
    by_first false same (l ∷ ls) e (inr f) = inr (rw (same, f, e) refl)

abbrev last_line : List (List (List ℕ)) → List (List ℕ)
last_line [] = []
last_line (l ∷ []) = l
last_line (l ∷ k ∷ ls) = last_line (k ∷ ls)

last_line-push : (ls : List (List (List ℕ))) (l : List (List ℕ)) → last_line (ls ++ l ∷ []) ≡ l
last_line-push [] l = refl
last_line-push (k ∷ []) l = refl
last_line-push (k ∷ j ∷ ls) l = last_line-push (j ∷ ls) l

map_words-push : (ls : List (List ℕ)) → map words (ls ++ [] ∷ []) ≡ map words ls ++ ([] ∷ []) ∷ []
map_words-push [] = refl
map_words-push (l ∷ ls) = ap (λ p. words l ∷ p) (map_words-push ls)

-- the page of a log's text is the log's
pub page_of_text : (text : List ℕ) (log : List LogLine) → IsLog log → length log + 1 < 2 ^ 63 → IsTextOf log text → page text ≡ log_page log
page_of_text text log h small is_text = by_end is_text
  where
    written : page (text_of log) ≡ log_page log
    written = page_written (log_page log) (log_has_words log h small)

    with_feed : text ++ 10 ∷ [] ≡ text_of log → HasFeedOrLine text → page text ≡ log_page log
    with_feed e (inl f) = ap (map words) (sym f) ∙ ap page e ∙ written
    with_feed e (inr f) =
        let lines_are : page text ++ ([] ∷ []) ∷ [] ≡ log_page log = sym (map_words-push (lines_of text)) ∙ ap (map words) (sym f) ∙ ap page e ∙ written in
        let last : [] ∷ [] ≡ end_words (length log) = sym (last_line-push (page text) ([] ∷ [])) ∙ ap last_line lines_are ∙ last_line-push (header ∷ clause_lines 1 log) (end_words (length log)) in
        absurd (omega (arith, ap length last))

    by_end : IsTextOf log text → page text ≡ log_page log
    by_end (inl e) = ap page e ∙ written
    by_end (inr e) = with_feed e (feed_or_line text)

-- A log is shorter than its text.

length-clause_lines : (id : ℕ) (log : List LogLine) → length (clause_lines id log) ≡ length log
length-clause_lines id [] = refl
length-clause_lines id (line ∷ log) = omega (arith, length-clause_lines (id + 1) log)

lines_short : (text : List ℕ) → length (lines_of text) ≤ length text
lines_short [] = omega arith
lines_short (b ∷ text) = by_first (eqb b 10) (lines_of text) (lines_short text)
  where
    by_first : (feed : Bool) (ls : List (List ℕ)) → length ls ≤ length text → length (cond feed ([] ∷ ls) (onto_first b ls)) ≤ length (b ∷ text)
    by_first true ls h = omega arith
    by_first false [] h = omega arith
    by_first false (l ∷ ls) h = omega arith

length-page : (ls : List (List ℕ)) → length (map words ls) ≡ length ls
length-page [] = refl
length-page (l ∷ ls) = omega (arith, length-page ls)

-- a log whose lines stand in a text is shorter than it
pub reached_short : (text : List ℕ) (log : List LogLine) (rest : List (List (List ℕ))) → page text ≡ header ∷ (clause_lines 1 log ++ rest) → length log + length rest < length text + 1
reached_short text log rest e =
    omega (arith, ap length e, length-page (lines_of text), lines_short text, length-append (clause_lines 1 log) rest, length-clause_lines 1 log)

line_some : (ws : List (List ℕ)) → 1 ≤ length (line_text ws)
line_some [] = omega arith
line_some (w ∷ ws) =
    let size : length (line_text (w ∷ ws)) ≡ length (w ++ spaced ws) + 1 = length-append (w ++ spaced ws) (10 ∷ []) in
    omega arith

page_short : (p : List (List (List ℕ))) → length p ≤ length (flat_map line_text p)
page_short [] = omega arith
page_short (ws ∷ p) =
    omega (arith, line_some ws, page_short p, length-append (line_text ws) (flat_map line_text p))

-- a log is shorter than its text
pub text_long : (text : List ℕ) (log : List LogLine) → IsTextOf log text → length log + 1 ≤ length text
text_long text log is_text = by_end is_text
  where
    size : length log + 2 ≤ length (text_of log)
    size = omega (arith, page_short (log_page log), length-append (clause_lines 1 log) (end_words (length log) ∷ []), length-clause_lines 1 log)

    by_end : IsTextOf log text → length log + 1 ≤ length text
    by_end (inl e) = omega (arith, size, ap length e)
    by_end (inr e) = omega (arith, size, ap length e, length-append text (10 ∷ []))
