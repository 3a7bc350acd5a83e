-- Pieces of a text between separators.
use Rattle.std.proofs.Common.{◌≡◌, ◌≢◌, ℕ, zero, suc, ◌+◌, ◌<◌, ◌≤◌, Bool, true, false, cond, eqb, List, [], ◌∷◌, ◌++◌, length, take, drop, refl, ap, sym, ◌∙◌, add-one, append_assoc, arith}
use Rattle.std.proofs.lemmas.List.{append-nil}
use Rattle.std.specs.Prelude.{Option, Some, None, Result, Ok, Err}
use Rattle.text_lines.specs.Lines.{lines_of, onto_first}
use Rattle.sat_log_text.specs.Answers.{words_after}
use Rattle.sat_log_text.specs.Page.{words}
use Rattle.sat_log_text.specs.Reading.{piece_len, items, with_item, item_then, same_bytes}
use Rattle.sat_log_text.specs.LogText.{zero_word}
use Rattle.sat_log_text.specs.declared.fault.LogFault.{LogFault}
use Rattle.sat_log_text.specs.declared.fault.LogFault.TheVariants.{BadNumber}

-- the first word of a line, and the others
pub words_cut : (bytes : List ℕ) → words bytes ≡ take (piece_len 32 bytes) bytes ∷ words_after (drop (piece_len 32 bytes) bytes)
words_cut [] = refl
words_cut (b ∷ bytes) = by_first (eqb b 32) (words_cut bytes)
  where
    by_first : (blank : Bool) → words bytes ≡ take (piece_len 32 bytes) bytes ∷ words_after (drop (piece_len 32 bytes) bytes) → cond blank ([] ∷ words bytes) (onto_first b (words bytes)) ≡ take (cond blank 0 (piece_len 32 bytes + 1)) (b ∷ bytes) ∷ words_after (drop (cond blank 0 (piece_len 32 bytes + 1)) (b ∷ bytes))
    by_first true rest = refl
    by_first false rest = rw (add-one, rest) refl

-- the first line of a text, and the others
pub lines_cut : (bytes : List ℕ) → bytes ≢ [] → lines_of bytes ≡ take (piece_len 10 bytes) bytes ∷ lines_of (drop (suc (piece_len 10 bytes)) bytes)
lines_cut [] some = absurd (some refl)
lines_cut (b ∷ []) some = by_first (eqb b 10)
  where
    by_first : (feed : Bool) → cond feed ([] ∷ []) ((b ∷ []) ∷ []) ≡ take (cond feed 0 1) (b ∷ []) ∷ lines_of (drop (suc (cond feed 0 1)) (b ∷ []))
    by_first true = refl
    by_first false = refl
lines_cut (b ∷ c ∷ bytes) some = by_first (eqb b 10) (lines_cut (c ∷ bytes) (λ e. cc))
  where
    by_first : (feed : Bool) → lines_of (c ∷ bytes) ≡ take (piece_len 10 (c ∷ bytes)) (c ∷ bytes) ∷ lines_of (drop (suc (piece_len 10 (c ∷ bytes))) (c ∷ bytes)) → cond feed ([] ∷ lines_of (c ∷ bytes)) (onto_first b (lines_of (c ∷ bytes))) ≡ take (cond feed 0 (piece_len 10 (c ∷ bytes) + 1)) (b ∷ c ∷ bytes) ∷ lines_of (drop (suc (cond feed 0 (piece_len 10 (c ∷ bytes) + 1))) (b ∷ c ∷ bytes))
    by_first true rest = refl
    by_first false rest = rw (add-one, rest) refl

words_behind : (rest : List ℕ) (at : ℕ) → at < length rest → words_after (drop at rest) ≡ words (drop (suc at) rest)
words_behind [] at h = absurd (omega arith)
words_behind (b ∷ rest) zero h = refl
words_behind (b ∷ rest) (suc at) h = words_behind rest at (omega arith)

drop_more : (xs : List ℕ) (m n : ℕ) → drop n (drop m xs) ≡ drop (m + n) xs
drop_more xs zero n = ap (λ k. drop k xs) (omega arith)
drop_more [] (suc m) n = drop_none n ∙ sym (drop_none (suc m + n))
  where
    drop_none : (k : ℕ) → drop {A = ℕ} k [] ≡ []
    drop_none zero = refl
    drop_none (suc k) = refl
drop_more (x ∷ xs) (suc m) n =
    let e : suc (m + n) ≡ suc m + n = omega arith in
    drop_more xs m n ∙ ap (λ k. drop k (x ∷ xs)) e

-- the words behind a place: the one up to the next blank, and those behind it
pub words_step : (rest word : List ℕ) (at next : ℕ) → at < length rest → word ≡ take (piece_len 32 (drop (at + 1) rest)) (drop (at + 1) rest) → next ≡ at + 1 + piece_len 32 (drop (at + 1) rest) → words_after (drop at rest) ≡ word ∷ words_after (drop next rest)
words_step rest word at next h piece place =
    words_behind rest at h
    ∙ ap (λ k. words (drop k rest)) (sym (add-one at))
    ∙ words_cut (drop (at + 1) rest)
    ∙ ap (λ w. w ∷ words_after (drop (piece_len 32 (drop (at + 1) rest)) (drop (at + 1) rest))) (sym piece)
    ∙ ap (λ t. word ∷ words_after t) (drop_more rest (at + 1) (piece_len 32 (drop (at + 1) rest)) ∙ ap (λ k. drop k rest) (sym place))

-- items read so far, before what is read of the rest
abbrev pub with_front : {A : Type 0} → List A → Result (List A × List (List ℕ)) LogFault → Result (List A × List (List ℕ)) LogFault
with_front front (Ok read) = Ok (front ++ read.0, read.1)
with_front front (Err fault) = Err fault

front_item : {A : Type 0} (xs : List A) (x : A) (r : Result (List A × List (List ℕ)) LogFault) → with_front xs (with_item x r) ≡ with_front (xs ++ x ∷ []) r
front_item xs x (Ok read) = ap (λ ys. Ok (ys, read.1)) (sym (append_assoc xs (x ∷ []) read.0))
front_item xs x (Err fault) = refl

-- the next word is the 0 that ends the items
pub items_end : {A : Type 0} (of : List ℕ → Option A) (line : ℕ) (xs : List A) (r : Result (List A × List (List ℕ)) LogFault) (left ws : List (List ℕ)) (w : List ℕ) → r ≡ with_front xs (items of line left) → left ≡ w ∷ ws → same_bytes w zero_word ≡ true → r ≡ Ok (xs, ws)
items_end of line xs r left ws w e f g =
    e ∙ ap (λ t. with_front xs (items of line t)) f ∙ ap (λ b. with_front xs (cond b (Ok ([], ws)) (item_then line (of w) (items of line ws)))) g ∙ ap (λ ys. Ok (ys, ws)) (append-nil xs)

-- the next word is no item
pub items_bad : {A : Type 0} (of : List ℕ → Option A) (line : ℕ) (xs : List A) (r : Result (List A × List (List ℕ)) LogFault) (left ws : List (List ℕ)) (w : List ℕ) → r ≡ with_front xs (items of line left) → left ≡ w ∷ ws → same_bytes w zero_word ≡ false → of w ≡ None → r ≡ Err (BadNumber line)
items_bad of line xs r left ws w e f g none =
    e ∙ ap (λ t. with_front xs (items of line t)) f ∙ ap (λ b. with_front xs (cond b (Ok ([], ws)) (item_then line (of w) (items of line ws)))) g ∙ ap (λ o. with_front xs (item_then line o (items of line ws))) none

-- the next word is an item
pub items_more : {A : Type 0} (of : List ℕ → Option A) (line : ℕ) (xs : List A) (r : Result (List A × List (List ℕ)) LogFault) (left ws : List (List ℕ)) (w : List ℕ) (x : A) → r ≡ with_front xs (items of line left) → left ≡ w ∷ ws → same_bytes w zero_word ≡ false → of w ≡ Some x → r ≡ with_front (xs ++ x ∷ []) (items of line ws)
items_more of line xs r left ws w x e f g item =
    e ∙ ap (λ t. with_front xs (items of line t)) f ∙ ap (λ b. with_front xs (cond b (Ok ([], ws)) (item_then line (of w) (items of line ws)))) g ∙ ap (λ o. with_front xs (item_then line o (items of line ws))) item ∙ front_item xs x (items of line ws)

pub drop_end : (xs : List ℕ) (n : ℕ) → length xs ≤ n → drop n xs ≡ []
drop_end [] zero h = refl
drop_end [] (suc n) h = refl
drop_end (x ∷ xs) zero h = absurd (omega arith)
drop_end (x ∷ xs) (suc n) h = drop_end xs n (omega arith)

-- the first word of a line that goes on or ends behind it
pub words_first : (text first : List ℕ) → first ≡ take (piece_len 32 (drop 0 text)) (drop 0 text) → length first ≡ piece_len 32 (drop 0 text) → words text ≡ first ∷ words_after (drop (length first) text)
words_first text first piece len =
    words_cut text ∙ ap (λ w. w ∷ words_after (drop (piece_len 32 text) text)) (sym piece) ∙ ap (λ k. first ∷ words_after (drop k text)) (sym len)

-- a line of one word
pub one_word : (text first : List ℕ) → first ≡ take (piece_len 32 (drop 0 text)) (drop 0 text) → length first ≡ piece_len 32 (drop 0 text) → length text ≤ length first → words text ≡ first ∷ []
one_word text first piece len all =
    words_first text first piece len ∙ ap (λ t. first ∷ words_after t) (drop_end text (length first) all)

-- a line of two words and what follows
pub two_first : (text first second : List ℕ) → first ≡ take (piece_len 32 (drop 0 text)) (drop 0 text) → length first ≡ piece_len 32 (drop 0 text) → length first < length text → second ≡ take (piece_len 32 (drop (length first + 1) text)) (drop (length first + 1) text) → length second ≡ piece_len 32 (drop (length first + 1) text) → words text ≡ first ∷ second ∷ words_after (drop (length first + 1 + length second) text)
two_first text first second piece len more piece' len' =
    words_first text first piece len ∙ ap (λ ws. first ∷ ws) (words_step text second (length first) (length first + 1 + length second) more piece' (ap (λ n. length first + 1 + n) len'))

-- behind a place within a line there is a word
pub words_there : (rest : List ℕ) (at : ℕ) → at < length rest → (w : List ℕ) × (ws : List (List ℕ)) × (words_after (drop at rest) ≡ w ∷ ws)
words_there rest at h =
    let start = drop (suc at) rest in
    (take (piece_len 32 start) start, words_after (drop (piece_len 32 start) start), words_behind rest at h ∙ words_cut start)

drop_some : (text : List ℕ) (at : ℕ) → at < length text → drop at text ≢ []
drop_some [] at h e = absurd (omega arith)
drop_some (b ∷ text) zero h e = cc
drop_some (b ∷ text) (suc at) h e = drop_some text at (omega arith) e

-- at a place within a text there is a line
pub lines_there : (text : List ℕ) (at : ℕ) → at < length text → (l : List ℕ) × (ls : List (List ℕ)) × (lines_of (drop at text) ≡ l ∷ ls)
lines_there text at h =
    (take (piece_len 10 (drop at text)) (drop at text), lines_of (drop (suc (piece_len 10 (drop at text))) (drop at text)), lines_cut (drop at text) (drop_some text at h))

-- the line at a place of a text, and the lines behind it
pub lines_step : (text line : List ℕ) (at next : ℕ) → at < length text → line ≡ take (piece_len 10 (drop at text)) (drop at text) → length line ≡ piece_len 10 (drop at text) → next ≡ at + (length line + 1) → lines_of (drop at text) ≡ line ∷ lines_of (drop next text)
lines_step text line at next h piece len place =
    let size : next ≡ at + suc (piece_len 10 (drop at text)) = omega (arith, add-one (piece_len 10 (drop at text))) in
    lines_cut (drop at text) (drop_some text at h)
    ∙ ap (λ l. l ∷ lines_of (drop (suc (piece_len 10 (drop at text))) (drop at text))) (sym piece)
    ∙ ap (λ t. line ∷ lines_of t) (drop_more text at (suc (piece_len 10 (drop at text))) ∙ ap (λ k. drop k text) (sym size))
