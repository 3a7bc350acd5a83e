-- The lines of a text, by where its first line feed stands.
use Rattle.std.proofs.Common.{◌≡◌, ◌≢◌, ◌+◌, ◌<◌, ℕ, suc, Bool, true, false, not, cond, List, [], ◌∷◌, length, take, drop, refl, ap, sym, ◌∙◌, arith}
use Rattle.std.specs.Prelude.{position, Some, None, nat_lt, ◌==◌}
use Rattle.std.specs.List.{position_or_len}
use Rattle.std.proofs.lemmas.Bool.{eqb-true, ltb-true, ltb-false}
use Rattle.std.proofs.lemmas.Option.{same_Some, none-some}
use Rattle.text_lines.specs.Lines.{onto_first, lines_of}

lines_cut : (text : List ℕ) → position_or_len (λ b. b == 10) text < length text → lines_of text ≡ take (position_or_len (λ b. b == 10) text) text ∷ lines_of (drop 1 (drop (position_or_len (λ b. b == 10) text) text))
lines_cut [] h = absurd (omega arith)
lines_cut (b ∷ text) h = by_test (b == 10) h (lines_cut text)
  where
    p : ℕ
    p = position_or_len (λ b. b == 10) text

    by_test : (t : Bool) → cond (not t) (1 + p) 0 < length (b ∷ text) → (p < length text → lines_of text ≡ take p text ∷ lines_of (drop 1 (drop p text)))
        → cond t ([] ∷ lines_of text) (onto_first b (lines_of text)) ≡ take (cond (not t) (1 + p) 0) (b ∷ text) ∷ lines_of (drop 1 (drop (cond (not t) (1 + p) 0) (b ∷ text)))
    by_test true k f = refl
    by_test false k f = ap (onto_first b) (f (omega arith)) ∙ (let e : suc p ≡ 1 + p = omega arith in ap (λ n. take n (b ∷ text) ∷ lines_of (drop 1 (drop n (b ∷ text)))) e)

-- a text without a line feed, of one byte at least, is one line
lines_whole : (b : ℕ) (text : List ℕ) → length (b ∷ text) ≡ position_or_len (λ b. b == 10) (b ∷ text) → lines_of (b ∷ text) ≡ (b ∷ text) ∷ []
lines_whole b [] h = by_test (b == 10) h
  where
    by_test : (t : Bool) → length (b ∷ []) ≡ cond (not t) (1 + 0) 0 → cond t ([] ∷ []) ((b ∷ []) ∷ []) ≡ (b ∷ []) ∷ []
    by_test true k = absurd (omega arith)
    by_test false k = refl
lines_whole b (y ∷ ys) h = by_test (b == 10) h (lines_whole y ys)
  where
    p : ℕ
    p = position_or_len (λ b. b == 10) (y ∷ ys)

    by_test : (t : Bool) → length (b ∷ y ∷ ys) ≡ cond (not t) (1 + p) 0 → (length (y ∷ ys) ≡ p → lines_of (y ∷ ys) ≡ (y ∷ ys) ∷ []) → cond t ([] ∷ lines_of (y ∷ ys)) (onto_first b (lines_of (y ∷ ys))) ≡ (b ∷ y ∷ ys) ∷ []
    by_test true k f = absurd (omega arith)
    by_test false k f = ap (onto_first b) (f (omega arith))

-- a line feed stands in a text or behind it
feed_most : (text : List ℕ) → position_or_len (λ b. b == 10) text < length text + 1
feed_most [] = omega arith
feed_most (b ∷ text) = by_test (b == 10) (feed_most text)
  where
    p : ℕ
    p = position_or_len (λ b. b == 10) text

    by_test : (t : Bool) → p < length text + 1 → cond (not t) (1 + p) 0 < length (b ∷ text) + 1
    by_test true h = omega arith
    by_test false h = omega arith

-- a line feed ends the first line
pub cut_at : (text : List ℕ) (i : ℕ) → position (λ b. b == 10) text ≡ Some i → lines_of text ≡ take i text ∷ lines_of (drop 1 (drop i text))
cut_at text i e = by_test (nat_lt (position_or_len (λ b. b == 10) text) (length text)) refl e
  where
    p : ℕ
    p = position_or_len (λ b. b == 10) text

    by_test : (t : Bool) → nat_lt p (length text) ≡ t → cond t (Some p) None ≡ Some i → lines_of text ≡ take i text ∷ lines_of (drop 1 (drop i text))
    by_test true h f = lines_cut text (ltb-true _ _ h) ∙ ap (λ n. take n text ∷ lines_of (drop 1 (drop n text))) (same_Some _ _ f)
    by_test false h f = absurd (none-some i f)

-- a text without a line feed is one line
pub cut_nowhere : (text : List ℕ) → text ≢ [] → position (λ b. b == 10) text ≡ None → lines_of text ≡ text ∷ []
cut_nowhere [] n e = absurd (n refl)
cut_nowhere (b ∷ text) n e = by_test (nat_lt (position_or_len (λ b. b == 10) (b ∷ text)) (length (b ∷ text))) refl e
  where
    p : ℕ
    p = position_or_len (λ b. b == 10) (b ∷ text)

    by_test : (t : Bool) → nat_lt p (length (b ∷ text)) ≡ t → cond t (Some p) None ≡ None → lines_of (b ∷ text) ≡ (b ∷ text) ∷ []
    by_test true h f = absurd (none-some _ (sym f))
    by_test false h f = lines_whole b text (omega (arith, ltb-false _ _ h, feed_most (b ∷ text)))

-- an empty text has no line
pub no_lines : (text : List ℕ) → (length text == 0) ≡ true → lines_of text ≡ []
no_lines [] e = refl
no_lines (b ∷ text) e = absurd (let k : length (b ∷ text) ≡ 0 = eqb-true (length (b ∷ text)) 0 e in omega (arith, k))
