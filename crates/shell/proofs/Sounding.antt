-- What the lines that a session reads say of its input.
use Rattle.std.proofs.Common.{◌≡◌, ◌≢◌, ◌+◌, ◌≤◌, ℕ, suc, Bool, true, false, cond, List, [], ◌∷◌, ◌++◌, length, inl, inr, refl, ap, sym, ◌∙◌, subst, arith, append_assoc}
use Rattle.std.proofs.lemmas.Bool.{eqb-true, ltb-false}
use Rattle.std.proofs.lemmas.List.{append-nil}
use Rattle.std.proofs.lemmas.Option.{none-some, same_Some}
use Rattle.std.specs.List.{list_any}
use Rattle.std.specs.Prelude.{◌==◌, ◌||◌, Option, None, Some, nat_lt}
use Rattle.outside.specs.Lines.{IsOneLine, TakesLine}
use Rattle.text_lines.specs.Lines.{lines_of, onto_first}

-- a line without its first byte is one
one_less : (b : ℕ) (line : List ℕ) → IsOneLine (b ∷ line) → IsOneLine line
one_less b line one c = one (suc c.0, omega (arith, c.1), c.2)

-- no byte of a line is a line feed
not_feed : (b : ℕ) (line : List ℕ) → IsOneLine (b ∷ line) → b ≡ 10 → ⊥
not_feed b line one e = one (0, omega arith, e)

-- a byte that is no line feed stands before the first line of what is behind it
byte_before : (b : ℕ) (rest : List ℕ) → (b ≡ 10 → ⊥) → lines_of (b ∷ rest) ≡ onto_first b (lines_of rest)
byte_before b rest n = by_test (b == 10) refl
  where
    by_test : (t : Bool) → (b == 10) ≡ t → cond t ([] ∷ lines_of rest) (onto_first b (lines_of rest)) ≡ onto_first b (lines_of rest)
    by_test true e = absurd (n (eqb-true b 10 e))
    by_test false e = refl

-- a line and its line feed
pub line_and_feed : (line rest : List ℕ) → IsOneLine line → lines_of (line ++ 10 ∷ rest) ≡ line ∷ lines_of rest
line_and_feed [] rest one = refl
line_and_feed (b ∷ line) rest one =
    byte_before b (line ++ 10 ∷ rest) (not_feed b line one) ∙ ap (onto_first b) (line_and_feed line rest (one_less b line one))

-- a last line
pub last_line : (line : List ℕ) → line ≢ [] → IsOneLine line → lines_of line ≡ line ∷ []
last_line [] n one = absurd (n refl)
last_line (b ∷ []) n one = byte_before b [] (not_feed b [] one)
last_line (b ∷ c ∷ line) n one =
    byte_before b (c ∷ line) (not_feed b (c ∷ line) one) ∙ ap (onto_first b) (last_line (c ∷ line) (λ e. cc) (one_less b (c ∷ line) one))

-- a text begins with a line of so many bytes at least
pub record BeginsLong (n : ℕ) (lines : List (List ℕ)) : Type 0 where
  pub line : List ℕ
  pub others : List (List ℕ)
  pub are : lines ≡ line ∷ others
  pub long : n ≤ length line

onto_longer : (b n : ℕ) (lines : List (List ℕ)) → BeginsLong n lines → BeginsLong (suc n) (onto_first b lines)
onto_longer b n lines g = record { line = b ∷ g.line; others = g.others; are = ap (onto_first b) g.are; long = omega (arith, g.long) }

onto_one : (b : ℕ) (lines : List (List ℕ)) → BeginsLong 1 (onto_first b lines)
onto_one b [] = record { line = b ∷ []; others = []; are = refl; long = omega arith }
onto_one b (line ∷ lines) = record { line = b ∷ line; others = lines; are = refl; long = omega arith }

begins_long : (front rest : List ℕ) → front ≢ [] → IsOneLine front → BeginsLong (length front) (lines_of (front ++ rest))
begins_long [] rest n one = absurd (n refl)
begins_long (b ∷ []) rest n one = subst (BeginsLong 1) (sym (byte_before b rest (not_feed b [] one))) (onto_one b (lines_of rest))
begins_long (b ∷ c ∷ front) rest n one =
    subst (BeginsLong (suc (length (c ∷ front)))) (sym (byte_before b (c ∷ front ++ rest) (not_feed b (c ∷ front) one)))
    (onto_longer b (length (c ∷ front)) (lines_of (c ∷ front ++ rest)) (begins_long (c ∷ front) rest (λ e. cc) (one_less b (c ∷ front) one)))

-- a text that begins with so many bytes of one line has a line that is as long
pub long_among : (limit : ℕ) (front rest : List ℕ) → IsOneLine front → length front ≡ limit + 1 → list_any (λ line. nat_lt limit (length line)) (lines_of (front ++ rest)) ≡ true
long_among limit front rest one e =
    let g = begins_long front rest (some_front front e) one in
    ap (λ ls. list_any (λ line. nat_lt limit (length line)) ls) g.are ∙ by_test g.line g.others g.long (nat_lt limit (length g.line)) refl
  where
    some_front : (xs : List ℕ) → length xs ≡ limit + 1 → xs ≢ []
    some_front [] k n = absurd (omega (arith, k))
    some_front (x ∷ xs) k n = cc

    by_test : (line : List ℕ) (others : List (List ℕ)) → length front ≤ length line → (t : Bool) → nat_lt limit (length line) ≡ t → (nat_lt limit (length line) || list_any (λ line. nat_lt limit (length line)) others) ≡ true
    by_test line others h true k = ap (λ t. t || list_any (λ line. nat_lt limit (length line)) others) k
    by_test line others h false k = absurd (let l : length line ≤ limit = ltb-false limit (length line) k in omega (arith, l, h, e))

-- a line was taken from a text that is told
pub record TookLine (text : List ℕ) (after : Option (List ℕ)) : Type 0 where
  pub line : List ℕ
  pub rest : List ℕ
  pub left : after ≡ Some rest
  pub lines : lines_of text ≡ line ∷ lines_of rest

pub took_line : (text line : List ℕ) (after : Option (List ℕ)) → IsOneLine line → TakesLine (Some text) line after → TookLine text after
took_line text line None one (inl e) = absurd (none-some text (sym e))
took_line text line None one (inr (n, e, r)) = absurd (none-some text (sym e))
took_line text line (Some rest) one (inl e) = record {
  line = line;
  rest = rest;
  left = refl;
  lines = ap lines_of (same_Some _ _ e ∙ append_assoc line (10 ∷ []) rest) ∙ line_and_feed line rest one;
}
took_line text line (Some rest) one (inr (n, e, r)) = record {
  line = line;
  rest = rest;
  left = refl;
  lines = ap lines_of (same_Some _ _ e ∙ (ap (λ xs. line ++ xs) r ∙ append-nil line)) ∙ (last_line line n one ∙ ap (λ xs. line ∷ lines_of xs) (sym r));
}
