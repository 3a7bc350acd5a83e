-- The text of a log in pieces, as it is written.
use Rattle.std.proofs.Common.{◌≡◌, ℕ, zero, suc, ◌+◌, ◌<◌, List, [], ◌∷◌, ◌++◌, map, length, get_or, take, drop, refl, ap, sym, ◌∙◌, append_assoc, add-one, length-append, arith, decimal}
use Rattle.std.specs.Prelude.{codes, Ok, Err}
use Rattle.std.specs.List.{flat_map}
use Rattle.std.proofs.lemmas.List.{append-nil}
use Rattle.outside.specs.declared.Failed.{Failed}
use Rattle.outside.specs.Calls.{Writes}
use Rattle.outside.specs.Told.{Output}
use Rattle.outside.proofs.WriteLemmas.{writes_as, writes_stopped, writes_then}
use Rattle.sat_log.specs.Literal.{Literal}
use Rattle.sat_log_text.specs.LogText.{spaced, line_text, literal_word, zero_word, letter, hint_words, line_words, clause_lines, end_words, text_of}
use Rattle.sat_log.specs.declared.line.LineKind.{LineKind}
use Rattle.sat_log.specs.declared.line.LineKind.TheVariants.{Original, Conflict, Final}
use Rattle.sat_log.specs.declared.line.LogLine.{LogLine}

pub flat_map-append : {A : Type 0} (f : A → List ℕ) (xs ys : List A) → flat_map f (xs ++ ys) ≡ flat_map f xs ++ flat_map f ys
flat_map-append f [] ys = refl
flat_map-append f (x ∷ xs) ys = ap (λ t. f x ++ t) (flat_map-append f xs ys) ∙ sym (append_assoc (f x) (flat_map f xs) (flat_map f ys))

pub spaced-map : {A : Type 0} (word : A → List ℕ) (xs : List A) → spaced (map word xs) ≡ flat_map (λ x. 32 ∷ word x) xs
spaced-map word [] = refl
spaced-map word (x ∷ xs) = ap (λ t. (32 ∷ word x) ++ t) (spaced-map word xs)

-- a line in the pieces that are written
pub line_pieces : (id : ℕ) (line : LogLine) → line_text (line_words id line) ≡ ((((decimal id ++ 32 ∷ letter line.kind) ++ flat_map (λ l. 32 ∷ literal_word l) line.lits) ++ 32 ∷ 48 ∷ []) ++ spaced (hint_words line.kind line.hints)) ++ 10 ∷ []
line_pieces id line =
    let literals = flat_map-append (λ w. 32 ∷ w) (map literal_word line.lits) (zero_word ∷ hint_words line.kind line.hints) in
    let same = spaced-map literal_word line.lits in
    rw (literals, same) (simp append_assoc)

pub clause_lines-append : (id : ℕ) (xs ys : List LogLine) → clause_lines id (xs ++ ys) ≡ clause_lines id xs ++ clause_lines (id + length xs) ys
clause_lines-append id [] ys = ap (λ n. clause_lines n ys) (omega arith)
clause_lines-append id (x ∷ xs) ys =
    ap (λ t. line_words id x ∷ t) (clause_lines-append (id + 1) xs ys ∙ ap (λ n. clause_lines (id + 1) xs ++ clause_lines n ys) (omega arith))

clause_lines_rest : (id : ℕ) (xs : List LogLine) (i : ℕ) (d : LogLine) → i < length xs → clause_lines id xs ≡ (clause_lines id (take i xs) ++ line_words (i + id) (get_or xs i d) ∷ []) ++ clause_lines (i + id + 1) (drop (suc i) xs)
clause_lines_rest id [] i d h = absurd (omega arith)
clause_lines_rest id (x ∷ xs) zero d h = ap (λ n. line_words n x ∷ clause_lines (n + 1) xs) (omega arith)
clause_lines_rest id (x ∷ xs) (suc i) d h =
    let h' : i < length xs = omega arith in
    let e : i + (id + 1) ≡ suc i + id = omega arith in
    ap (λ t. line_words id x ∷ t) (clause_lines_rest (id + 1) xs i d h' ∙ ap (λ n. (clause_lines (id + 1) (take i xs) ++ line_words n (get_or xs i d) ∷ []) ++ clause_lines (n + 1) (drop (suc i) xs)) e)

clause_lines_more : (id : ℕ) (xs : List LogLine) (i : ℕ) (d : LogLine) → i < length xs → clause_lines id (take (suc i) xs) ≡ clause_lines id (take i xs) ++ line_words (i + id) (get_or xs i d) ∷ []
clause_lines_more id [] i d h = absurd (omega arith)
clause_lines_more id (x ∷ xs) zero d h = ap (λ n. line_words n x ∷ []) (omega arith)
clause_lines_more id (x ∷ xs) (suc i) d h =
    let h' : i < length xs = omega arith in
    let e : i + (id + 1) ≡ suc i + id = omega arith in
    ap (λ t. line_words id x ∷ t) (clause_lines_more (id + 1) xs i d h' ∙ ap (λ n. clause_lines (id + 1) (take i xs) ++ line_words n (get_or xs i d) ∷ []) e)

-- the text of one more line
pub lines_more : (log : List LogLine) (i : ℕ) (line : LogLine) → i < length log → line ≡ get_or log i line → flat_map line_text (clause_lines 1 (take (i + 1) log)) ≡ flat_map line_text (clause_lines 1 (take i log)) ++ line_text (line_words (i + 1) line)
lines_more log i line h at =
    ap (λ n. flat_map line_text (clause_lines 1 (take n log))) (add-one i)
    ∙ ap (flat_map line_text) (clause_lines_more 1 log i line h)
    ∙ flat_map-append line_text (clause_lines 1 (take i log)) (line_words (i + 1) (get_or log i line) ∷ [])
    ∙ ap (λ t. flat_map line_text (clause_lines 1 (take i log)) ++ t) (append-nil (line_text (line_words (i + 1) (get_or log i line))) ∙ ap (λ l. line_text (line_words (i + 1) l)) (sym at))

-- the text of the lines before a line, its own, and that of the lines behind it
lines_split : (log : List LogLine) (i : ℕ) (line : LogLine) → i < length log → line ≡ get_or log i line → (flat_map line_text (clause_lines 1 (take i log)) ++ line_text (line_words (i + 1) line)) ++ flat_map line_text (clause_lines (i + 1 + 1) (drop (suc i) log)) ≡ flat_map line_text (clause_lines 1 log)
lines_split log i line h at =
    let front = flat_map line_text (clause_lines 1 (take i log)) in
    let rest = flat_map line_text (clause_lines (i + 1 + 1) (drop (suc i) log)) in
    sym
    (ap (flat_map line_text) (clause_lines_rest 1 log i line h)
    ∙ flat_map-append line_text (clause_lines 1 (take i log) ++ line_words (i + 1) (get_or log i line) ∷ []) (clause_lines (i + 1 + 1) (drop (suc i) log))
    ∙ ap (λ t. t ++ rest) (flat_map-append line_text (clause_lines 1 (take i log)) (line_words (i + 1) (get_or log i line) ∷ []) ∙ ap (λ t. front ++ t) (append-nil (line_text (line_words (i + 1) (get_or log i line))) ∙ ap (λ l. line_text (line_words (i + 1) l)) (sym at))))

-- the write of a line stopped, behind the lines before it
pub lines_stopped : {X Y : Type 0} {x : X} {k : Failed} {old mid new : Output} (log : List LogLine) (i : ℕ) (line : LogLine) → i < length log → line ≡ get_or log i line → Writes (flat_map line_text (clause_lines 1 (take i log))) old (Ok x) mid → Writes {X = Y} (line_text (line_words (i + 1) line)) mid (Err k) new → Writes {X = Y} (flat_map line_text (clause_lines 1 log)) old (Err k) new
lines_stopped log i line h at v w =
    let rest = flat_map line_text (clause_lines (i + 1 + 1) (drop (suc i) log)) in
    let whole : (flat_map line_text (clause_lines 1 (take i log)) ++ line_text (line_words (i + 1) line)) ++ rest ≡ flat_map line_text (clause_lines 1 log) = lines_split log i line h at in
    writes_as whole (writes_stopped rest (writes_then v w))

pub hint_pieces : (hints : List ℕ) → spaced (map decimal hints ++ zero_word ∷ []) ≡ flat_map (λ n. 32 ∷ decimal n) hints ++ 32 ∷ 48 ∷ []
hint_pieces hints =
    flat_map-append (λ w. 32 ∷ w) (map decimal hints) (zero_word ∷ []) ∙ ap (λ t. t ++ 32 ∷ 48 ∷ []) (spaced-map decimal hints)

-- the text of a log in the pieces that are written
pub text_pieces : (log : List LogLine) → text_of log ≡ (codes "log 1\n" ++ flat_map line_text (clause_lines 1 log)) ++ (codes "end " ++ decimal (length log) ++ codes "\n")
text_pieces log =
    let last : flat_map line_text (end_words (length log) ∷ []) ≡ codes "end " ++ decimal (length log) ++ codes "\n" = simp (append-nil, append_assoc) in
    ap (λ t. codes "log 1\n" ++ t) (flat_map-append line_text (clause_lines 1 log) (end_words (length log) ∷ []) ∙ ap (λ t. flat_map line_text (clause_lines 1 log) ++ t) last)
    ∙ sym (append_assoc (codes "log 1\n") (flat_map line_text (clause_lines 1 log)) (codes "end " ++ decimal (length log) ++ codes "\n"))

pub flat_map_more : {A : Type 0} (f : A → List ℕ) (xs : List A) (i : ℕ) (d : A) → i < length xs → length (flat_map f (take (i + 1) xs)) ≡ length (flat_map f (take i xs)) + length (f (get_or xs i d))
flat_map_more f xs i d h = ap (λ n. length (flat_map f (take n xs))) (add-one i) ∙ by_suc f xs i d h
  where
    by_suc : {A : Type 0} (f : A → List ℕ) (xs : List A) (i : ℕ) (d : A) → i < length xs → length (flat_map f (take (suc i) xs)) ≡ length (flat_map f (take i xs)) + length (f (get_or xs i d))
    by_suc f [] i d h = absurd (omega arith)
    by_suc f (x ∷ xs) zero d h = ap length (append-nil (f x)) ∙ omega arith
    by_suc f (x ∷ xs) (suc i) d h =
        let h' : i < length xs = omega arith in
        let rest = by_suc f xs i d h' in
        omega (arith, length-append (f x) (flat_map f (take (suc i) xs)), length-append (f x) (flat_map f (take i xs)), rest)

pub length-hints : (hints : List ℕ) → length (spaced (map decimal hints ++ zero_word ∷ [])) ≡ length (flat_map (λ n. 32 ∷ decimal n) hints) + 2
length-hints hints = ap length (hint_pieces hints) ∙ length-append (flat_map (λ n. 32 ∷ decimal n) hints) (32 ∷ 48 ∷ [])

length-letter : (kind : LineKind) → length (letter kind) ≡ 1
length-letter Original = refl
length-letter Conflict = refl
length-letter Final = refl

pub length-line : (id : ℕ) (line : LogLine) → length (line_text (line_words id line)) ≡ length (decimal id) + 5 + length (flat_map (λ (l : Literal). 32 ∷ literal_word l) line.lits) + length (spaced (hint_words line.kind line.hints))
length-line id line =
    let start = decimal id in
    let mark = 32 ∷ letter line.kind in
    let literals = flat_map (λ (l : Literal). 32 ∷ literal_word l) line.lits in
    let hints = spaced (hint_words line.kind line.hints) in
    let whole = ap length (line_pieces id line) in
    let letters = length-letter line.kind in
    omega (arith, whole, letters, length-append (((start ++ mark) ++ literals) ++ 32 ∷ 48 ∷ []) hints, length-append ((start ++ mark) ++ literals) (32 ∷ 48 ∷ []), length-append (start ++ mark) literals, length-append start mark, length-append ((((start ++ mark) ++ literals) ++ 32 ∷ 48 ∷ []) ++ hints) (10 ∷ []))

pub length-lines_more : (log : List LogLine) (i : ℕ) (line : LogLine) → i < length log → line ≡ get_or log i line → length (flat_map line_text (clause_lines 1 (take (i + 1) log))) ≡ length (flat_map line_text (clause_lines 1 (take i log))) + length (line_text (line_words (i + 1) line))
length-lines_more log i line h at =
    ap length (lines_more log i line h at) ∙ length-append (flat_map line_text (clause_lines 1 (take i log))) (line_text (line_words (i + 1) line))

pub length-text : (log : List LogLine) → length (text_of log) ≡ length (flat_map line_text (clause_lines 1 log)) + 11 + length (decimal (length log))
length-text log =
    let lines = flat_map line_text (clause_lines 1 log) in
    omega (arith, ap length (text_pieces log), length-append (codes "log 1\n" ++ lines) (codes "end " ++ decimal (length log) ++ codes "\n"), length-append (codes "log 1\n") lines, length-append (codes "end " ++ decimal (length log)) (codes "\n"), length-append (codes "end ") (decimal (length log)))
