-- What printed expressions begin with: a token with which operands begin; behind a `-` no range, and a second
-- `-` only where it is an operator; in an atom no `!`.
use Rattle.std.proofs.Common.{◌≡◌, ◌≤◌, ◌-◌, ◌||◌, ℕ, ℤ, pos, negsuc, Bool, true, false, cond, nat_eq, nat_lt, List, [], ◌∷◌, ◌++◌, Option, Some, None, refl, sym, ◌∙◌, subst, arith, codes, decimal}
use Rattle.std.specs.Str.{bytes_eq}
use Rattle.std.proofs.lemmas.Bool.{ltb-false}
use Rattle.smv_tree.specs.declared.expr.Op1.TheVariants as op1
use Rattle.smv_tree.specs.declared.expr.Op2.{Op2}
use Rattle.smv_tree.specs.declared.expr.Op2.TheVariants as op2
use Rattle.smv_tree.specs.Trees.{Tree, truth, number, word, name, span, set, cases, choice, one, two, select, next, widen, const, count}
use Rattle.smv_tree.specs.Word.{Word}
use Rattle.smv_token.specs.declared.mark.Mark.{Mark}
use Rattle.smv_token.specs.declared.mark.Mark.TheVariants as marks
use Rattle.smv_token.specs.declared.token.Token.{Token}
use Rattle.smv_token.specs.declared.token.Lexeme.{Lexeme}
use Rattle.smv_token.specs.declared.token.Lexeme.TheVariants as lexeme
use Rattle.smv_token.specs.Marks.{text}
use Rattle.smv_token.specs.Numbers.{is_decimal}
use Rattle.smv_token.specs.Tokens.{begins_name}
use Rattle.smv_grammar.specs.Forms.{begins_dots, begins_range, is_dots, is_number}
use Rattle.smv_grammar.specs.IsMark.{is_mark, same_mark}
use Rattle.smv_rules.specs.Keys.{begins_with, is_operand, primary_by}
use Rattle.smv_printing.specs.declared.lead.Lead.{Lead}
use Rattle.smv_printing.specs.declared.lead.Lead.TheVariants as lead
use Rattle.smv_printing.specs.Printing.{Ink, bare, blank, dotted, integer, is_negation, left_level, level, lexeme_text, mark_of_two, misread, path_head, spelled, symbol, to_right, token, word_head, word_text}
use Rattle.smv_printing.proofs.ScannedTokens.{Scannable, Scannables, Signed, first_is, greatest}
use Rattle.smv_printing.proofs.ReadInks.{apart, decimal_writes, first_byte, first_of}
use Rattle.smv_printing.proofs.Says.{Lays, NoDots, lays_quiet, stands}

no_true : {b : Bool} → b ≡ false → b ≡ true → ⊥
no_true e f = absurd (cc)

-- The first token of an expression that is no looser than the level, and what is printed behind it.
pub record Opening (k : Lead) (l : ℕ) (w : Lexeme) (is : List Ink) : Type 0 where
  pub scannable : Scannable w
  pub operand : is_operand w ≡ true
  pub number : k ≡ lead.Minus → is_number w ≡ true → NoDots is
  pub minus : k ≡ lead.Minus → is_mark marks.Minus w ≡ true → 4 ≤ l
  pub bang : k ≡ lead.Atom → is_mark marks.Bang w ≡ false

abbrev pub Opens : Lead → ℕ → List Ink → Type 0
Opens k l [] = ⊥
Opens k l (blank ∷ is) = ⊥
Opens k l (token w ∷ is) = Opening k l w is

no_dots_more : (is js : List Ink) → NoDots is → NoDots js → NoDots (is ++ js)
no_dots_more [] js h g = g
no_dots_more (blank ∷ is) js h g = no_dots_more is js h g
no_dots_more (token w ∷ is) js h g = h

pub opens_more : (k : Lead) (l : ℕ) (is js : List Ink) → Opens k l is → NoDots js → Opens k l (is ++ js)
opens_more k l [] js h g = absurd h
opens_more k l (blank ∷ is) js h g = absurd h
opens_more k l (token w ∷ is) js h g = record { scannable = h.scannable; operand = h.operand; number = λ e f. no_dots_more is js (h.number e f) g; minus = h.minus; bang = h.bang }

plain : (k : Lead) (l : ℕ) (w : Lexeme) (is : List Ink) → Scannable w → is_operand w ≡ true → is_number w ≡ false → is_mark marks.Minus w ≡ false → is_mark marks.Bang w ≡ false → Opening k l w is
plain k l w is s o n m b = record { scannable = s; operand = o; number = λ e f. absurd (no_true n f); minus = λ e f. absurd (no_true m f); bang = λ e. b }

marked : (k : Lead) (l : ℕ) (m : Mark) (is : List Ink) → is_operand (lexeme.Mark m) ≡ true → is_mark marks.Minus (lexeme.Mark m) ≡ false → is_mark marks.Bang (lexeme.Mark m) ≡ false → Opening k l (lexeme.Mark m) is
marked k l m is o a b = plain k l (lexeme.Mark m) is tt o refl a b

counted : (k : Lead) (l n : ℕ) (is : List Ink) → n ≤ greatest → (k ≡ lead.Minus → NoDots is) → Opening k l (lexeme.Number n) is
counted k l n is s h = record { scannable = s; operand = refl; number = λ e f. h e; minus = λ e f. absurd (no_true refl f); bang = λ e. refl }

headed : (k : Lead) (l : ℕ) (n : List ℕ) (is : List Ink) → Scannable (path_head n) → Opening k l (path_head n) is
unfolding same_mark primary_by
headed k l n is s = by (bytes_eq n (codes "self")) s where
  by : (b : Bool) → Scannable (cond b (lexeme.Mark marks.SelfWord) (lexeme.Name n)) → Opening k l (cond b (lexeme.Mark marks.SelfWord) (lexeme.Name n)) is
  by true s = marked k l marks.SelfWord is refl refl refl
  by false s = plain k l (lexeme.Name n) is s refl refl refl refl

ranged : (k : Lead) (l : ℕ) (v : ℤ) (is : List Ink) → Signed v → (k ≡ lead.Minus → ⊥) → Opens k l (integer v ++ is)
unfolding same_mark primary_by
ranged k l (pos n) is s h = counted k l n is s (λ e. absurd (h e))
ranged k l (negsuc n) is s h = record { scannable = tt; operand = refl; number = λ e f. absurd (h e); minus = λ e f. absurd (h e); bang = λ e. refl }

misread_not : (k j : Lead) (x : Tree) → misread k x ≡ false → misread j x ≡ true → k ≡ j → ⊥
misread_not k j x m t e = no_true (subst (λ k. misread k x ≡ false) e m) t

pub opens_part : (k : Lead) (place l : ℕ) (x : Tree) → (level x ≤ place → misread k x ≡ false → Opens k l (bare x k)) → Opens k l (spelled k place x)
unfolding same_mark primary_by
opens_part k place l x h = by (nat_lt place (level x)) (misread k x) refl refl where
  by : (a b : Bool) → nat_lt place (level x) ≡ a → misread k x ≡ b → Opens k l (cond (a || b) (symbol marks.OpenRound ∷ (bare x lead.Free ++ symbol marks.CloseRound ∷ [])) (bare x k))
  by true b e m = marked k l marks.OpenRound _ refl refl refl
  by false true e m = marked k l marks.OpenRound _ refl refl refl
  by false false e m = h (ltb-false place (level x) e) m

left_less : (l : ℕ) → left_level l ≤ l
left_less l = by (to_right l) where
  by : (b : Bool) → cond b (l - 1) l ≤ l
  by true = omega arith
  by false = omega arith

no_dots_op : (o : Op2) → is_dots (lexeme.Mark (mark_of_two o)) ≡ false
no_dots_op op2.Concat = refl
no_dots_op o = refl

pub opens : (x : Tree) (k : Lead) (l : ℕ) → Scannables x → level x ≤ l → misread k x ≡ false → Opens k l (bare x k)
unfolding bare Scannables same_mark primary_by
opens (truth p true) k l s h m = marked k l marks.True [] refl refl refl
opens (truth p false) k l s h m = marked k l marks.False [] refl refl refl
opens (number p n) k l s h m = counted k l n [] s (λ e. tt)
opens (word p w) k l s h m = plain k l (lexeme.Word w) [] s refl refl refl refl
opens (name p []) k l s h m = absurd s
opens (name p (n ∷ ns)) k l s h m = headed k l n (dotted ns) s.0
opens (span p low high) k l s h m = ranged k l low _ s.0 (misread_not k lead.Minus (span p low high) m refl)
opens (set p es) k l s h m = marked k l marks.OpenCurly _ refl refl refl
opens (cases p bs) k l s h m = marked k l marks.Case _ refl refl refl
opens (choice p c a b) k l s h m = opens_more k l (spelled k 12 c) _ (opens_part k 12 l c (λ i j. opens c k l s.0 (omega (arith, h, i)) j)) refl
opens (one p op1.Not a) k l s h m = record { scannable = tt; operand = refl; number = λ e f. absurd (no_true refl f); minus = λ e f. absurd (no_true refl f); bang = λ e. absurd (misread_not k lead.Atom (one p op1.Not a) m refl e) }
opens (one p op1.Neg a) k l s h m = record { scannable = tt; operand = refl; number = λ e f. absurd (no_true refl f); minus = λ e f. h; bang = λ e. refl }
opens (one p o a) k l s h m = marked k l _ _ refl refl refl
opens (two p o a b) k l s h m = let q = left_less (level (two p o a b)) in opens_more k l (spelled k (left_level (level (two p o a b))) a) _ (opens_part k (left_level (level (two p o a b))) l a (λ i j. opens a k l s.0 (omega (arith, q, h, i)) j)) (no_dots_op o)
opens (select p a high low) k l s h m = opens_more k l (spelled k 1 a) _ (opens_part k 1 l a (λ i j. opens a k l s.0 (omega (arith, h, i)) j)) refl
opens (next p a) k l s h m = marked k l marks.Next _ refl refl refl
opens (widen p true a n) k l s h m = marked k l marks.Resize _ refl refl refl
opens (widen p false a n) k l s h m = marked k l marks.Extend _ refl refl refl
opens (const p true v n) k l s h m = marked k l marks.SwConst _ refl refl refl
opens (const p false v n) k l s h m = marked k l marks.UwConst _ refl refl refl
opens (count p es) k l s h m = marked k l marks.Count _ refl refl refl

pub opens_in : (x : Tree) (k : Lead) (place : ℕ) → Scannables x → Opens k place (spelled k place x)
opens_in x k place s = opens_part k place place x (opens x k place s)

-- an operand of a `-` that is no negation is tighter than one
tighter : (x : Tree) → level x ≤ 4 → is_negation x ≡ false → level x ≤ 3
tighter (choice p c a b) h e = absurd (omega arith)
tighter (one p op1.Neg a) h e = absurd (cc)
tighter (one p o a) h e = omega arith
tighter (two p op2.Concat a b) h e = omega arith
tighter (two p o a b) h e = absurd (omega arith)
tighter x h e = omega arith

pub opens_tighter : (x : Tree) → Scannables x → is_negation x ≡ false → Opens lead.Minus 3 (spelled lead.Minus 4 x)
opens_tighter x s e = opens_part lead.Minus 4 3 x (λ h m. opens x lead.Minus 3 s (tighter x h e) m)

-- the same of the tokens
no_esac : (w : Lexeme) → is_operand w ≡ true → is_mark marks.Esac w ≡ false
unfolding same_mark primary_by
no_esac (lexeme.Mark marks.Esac) e = absurd (cc)
no_esac w e = refl

pub begins_not : (k : Lead) (l : ℕ) (is : List Ink) (us rest : List Token) → Opens k l is → Lays is us rest → begins_with marks.Esac us ≡ false
begins_not k l [] us rest o q = absurd o
begins_not k l (blank ∷ is) us rest o q = absurd o
begins_not k l (token w ∷ is) us rest o q = subst (λ us. begins_with marks.Esac us ≡ false) (sym q.is) (no_esac w o.operand)

pub atom_opens : (l : ℕ) (is : List Ink) (us rest vs : List Token) (t : Token) → Opens lead.Atom l is → Lays is us rest → us ≡ t ∷ vs → (is_operand t.lexeme ≡ true) × (is_mark marks.Bang t.lexeme ≡ false)
atom_opens l [] us rest vs t o q e = absurd o
atom_opens l (blank ∷ is) us rest vs t o q e = absurd o
atom_opens l (token w ∷ is) us rest vs t o q e =
    let f = sym q.is ∙ e in
    let g : stands q.place w ≡ t = cc in
    subst (λ (t : Token). (is_operand t.lexeme ≡ true) × (is_mark marks.Bang t.lexeme ≡ false)) g (o.operand, o.bang refl)

pub no_range : (l : ℕ) (is : List Ink) (us rest : List Token) → Opens lead.Minus l is → Lays is us rest → begins_dots rest ≡ false → begins_range us ≡ false
no_range l [] us rest o q e = absurd o
no_range l (blank ∷ is) us rest o q e = absurd o
no_range l (token w ∷ is) us rest o q e = subst (λ us. begins_range us ≡ false) (sym q.is) (by (is_number w) refl) where
  by : (b : Bool) → is_number w ≡ b → cond b (begins_dots q.others) false ≡ false
  by true f = lays_quiet is q.others rest q.behind (o.number refl f) e
  by false f = refl

-- a byte with which expressions begin
abbrev pub begins_part : ℕ → Bool
begins_part b = begins_name b || is_decimal b || nat_eq b 40 || nat_eq b 123 || nat_eq b 33 || nat_eq b 45

abbrev starts : Option ℕ → Bool
starts None = false
starts (Some b) = begins_part b

abbrev dashes : Option ℕ → Bool
dashes None = false
dashes (Some b) = nat_eq b 45

abbrev pub Begins : Option ℕ → Type 0
Begins end = (starts end ≡ true)

abbrev pub NoMinus : Option ℕ → Type 0
NoMinus end = (dashes end ≡ false)

pub first_append : (a b : List Ink) (end : Option ℕ) → first_byte (a ++ b) end ≡ first_byte a (first_byte b end)
first_append [] b end = refl
first_append (blank ∷ a) b end = refl
first_append (token t ∷ a) b end = refl

name_begins : (bs : List ℕ) → first_is begins_name bs ≡ true → Begins (first_of bs) × NoMinus (first_of bs)
name_begins [] h = absurd (cc)
name_begins (b ∷ bs) h = (rw h refl, apart begins_name b 45 h refl)

digit_begins : (bs : List ℕ) → first_is is_decimal bs ≡ true → Begins (first_of bs) × NoMinus (first_of bs)
digit_begins [] h = absurd (cc)
digit_begins (b ∷ bs) h = (by (begins_name b), apart is_decimal b 45 h refl) where
  by : (x : Bool) → x || is_decimal b || nat_eq b 40 || nat_eq b 123 || nat_eq b 33 || nat_eq b 45 ≡ true
  by true = refl
  by false = rw h refl

pub number_begins : (n : ℕ) → n ≤ greatest → Begins (first_of (decimal n)) × NoMinus (first_of (decimal n))
number_begins n h = digit_begins (decimal n) (decimal_writes n (omega arith)).first

word_begins : (w : Word) → Begins (first_of (word_text w)) × NoMinus (first_of (word_text w))
word_begins w = by w.signed where
  by : (b : Bool) → Begins (first_of (word_head b ++ (decimal w.width ++ (codes "_" ++ decimal w.bits)))) × NoMinus (first_of (word_head b ++ (decimal w.width ++ (codes "_" ++ decimal w.bits))))
  by true = (refl, refl)
  by false = (refl, refl)

mark_begins : (m : Mark) → cond (is_operand (lexeme.Mark m)) (starts (first_of (text m))) true ≡ true
unfolding text same_mark primary_by
mark_begins marks.Iff = refl
mark_begins m = refl

mark_dashes : (m : Mark) → cond (is_operand (lexeme.Mark m)) (cond (is_mark marks.Minus (lexeme.Mark m)) false (dashes (first_of (text m)))) false ≡ false
unfolding text same_mark primary_by
mark_dashes marks.Iff = refl
mark_dashes m = refl

operand_begins : (w : Lexeme) → Scannable w → is_operand w ≡ true → Begins (first_of (lexeme_text w)) × (is_mark marks.Minus w ≡ false → NoMinus (first_of (lexeme_text w)))
operand_begins (lexeme.Mark m) s e = (subst (λ b. cond b (starts (first_of (text m))) true ≡ true) e (mark_begins m), λ f. subst (λ b. cond b false (dashes (first_of (text m))) ≡ false) f (subst (λ b. cond b (cond (is_mark marks.Minus (lexeme.Mark m)) false (dashes (first_of (text m)))) false ≡ false) e (mark_dashes m)))
operand_begins (lexeme.Name n) s e = let h = name_begins n s.begins in (h.0, λ f. h.1)
operand_begins (lexeme.Number n) s e = let h = number_begins n s in (h.0, λ f. h.1)
operand_begins (lexeme.Word w) s e = let h = word_begins w in (h.0, λ f. h.1)

pub opened_begins : (k : Lead) (l : ℕ) (is : List Ink) (end : Option ℕ) → Opens k l is → Begins (first_byte is end)
opened_begins k l [] end o = absurd o
opened_begins k l (blank ∷ is) end o = absurd o
opened_begins k l (token w ∷ is) end o = (operand_begins w o.scannable o.operand).0

pub no_minus : (is : List Ink) (end : Option ℕ) → Opens lead.Minus 3 is → NoMinus (first_byte is end)
no_minus [] end o = absurd o
no_minus (blank ∷ is) end o = absurd o
no_minus (token w ∷ is) end o = (operand_begins w o.scannable o.operand).1 (by (is_mark marks.Minus w) refl) where
  by : (b : Bool) → is_mark marks.Minus w ≡ b → b ≡ false
  by true e = let h = o.minus refl e in absurd (omega (arith, h))
  by false e = refl
