-- How expressions and formulas are printed.
use Rattle.std.specs.Prelude.{ℕ, suc, ℤ, pos, negsuc, ◌||◌, ◌==◌, ◌-◌, Bool, true, false, List, [], ◌∷◌, ◌++◌, if◌then◌else◌, nat_lt, codes, decimal}
use Rattle.std.specs.List.{flat_map}
use Rattle.std.specs.Str.{bytes_eq}
use Rattle.smv_tree.specs.declared.expr.Op1.{Op1}
use Rattle.smv_tree.specs.declared.expr.Op1.TheVariants as op1
use Rattle.smv_tree.specs.declared.expr.Op2.{Op2}
use Rattle.smv_tree.specs.declared.expr.Op2.TheVariants as op2
use Rattle.smv_tree.specs.declared.formula.FormOp.{FormOp}
use Rattle.smv_tree.specs.declared.formula.FormOp.TheVariants as form_op
use Rattle.smv_tree.specs.Models.{Claim, atom, no, after, always, some_time, both}
use Rattle.smv_tree.specs.Trees.{Tree, Trees, Arms, truth, number, word, name, span, set, cases, choice, one, two, select, next, widen, const, count, no_trees, tree, no_arms, arm}
use Rattle.smv_tree.specs.Word.{Word}
use Rattle.smv_printing.specs.declared.lead.Lead.{Lead}
use Rattle.smv_printing.specs.declared.lead.Lead.TheVariants as lead
use Rattle.smv_token.specs.declared.mark.Mark.{Mark}
use Rattle.smv_token.specs.declared.mark.Mark.TheVariants as marks
use Rattle.smv_token.specs.declared.token.Lexeme.{Lexeme}
use Rattle.smv_token.specs.declared.token.Lexeme.TheVariants as lexeme
use Rattle.smv_grammar.specs.Forms.{infix_of}
use Rattle.smv_grammar.specs.Formulas.{atomic, joining_by, outermost}
use Rattle.smv_grammar.specs.Levels.{level_of}
use Rattle.smv_token.specs.Marks.{text}

-- What is printed: tokens, with single blanks where they are wanted.
pub data Ink : Type 0 where
  blank : Ink
  token : Lexeme → Ink

-- what a word constant begins with: its base is ten
abbrev pub word_head : Bool → List ℕ
word_head signed = if signed then codes "0sd" else codes "0ud"

-- A word constant: whether it is signed, its width in bits, and its bits as a natural number.
abbrev pub word_text : Word → List ℕ
word_text w = word_head w.signed ++ (decimal w.width ++ (codes "_" ++ decimal w.bits))

-- a token as it is written
abbrev pub lexeme_text : Lexeme → List ℕ
lexeme_text (lexeme.Mark m) = text m
lexeme_text (lexeme.Name n) = n
lexeme_text (lexeme.Number n) = decimal n
lexeme_text (lexeme.Word w) = word_text w

abbrev pub ink_text : Ink → List ℕ
ink_text blank = codes " "
ink_text (token t) = lexeme_text t

-- the bytes of what is printed
abbrev pub text_of : List Ink → List ℕ
text_of inks = flat_map ink_text inks

abbrev pub symbol : Mark → Ink
symbol m = token (lexeme.Mark m)

abbrev pub numeral : ℕ → Ink
numeral n = token (lexeme.Number n)

-- the mark that is written for an operator or a function of one operand
abbrev pub mark_of_one : Op1 → Mark
mark_of_one op1.Not = marks.Bang
mark_of_one op1.Neg = marks.Minus
mark_of_one op1.Word1 = marks.WordOne
mark_of_one op1.Bool = marks.BoolOf
mark_of_one op1.Signed = marks.Signed
mark_of_one op1.Unsigned = marks.Unsigned
mark_of_one op1.ToInt = marks.ToInt

-- the mark that is written for an operator of two operands
abbrev pub mark_of_two : Op2 → Mark
mark_of_two op2.Concat = marks.Concat
mark_of_two op2.Mul = marks.Star
mark_of_two op2.Div = marks.Slash
mark_of_two op2.Mod = marks.Mod
mark_of_two op2.Add = marks.Plus
mark_of_two op2.Sub = marks.Minus
mark_of_two op2.Shl = marks.ShiftLeft
mark_of_two op2.Shr = marks.ShiftRight
mark_of_two op2.Union = marks.Union
mark_of_two op2.In = marks.InWord
mark_of_two op2.Eq = marks.Equals
mark_of_two op2.Ne = marks.Differs
mark_of_two op2.Lt = marks.Less
mark_of_two op2.Gt = marks.Greater
mark_of_two op2.Le = marks.AtMost
mark_of_two op2.Ge = marks.AtLeast
mark_of_two op2.And = marks.Ampersand
mark_of_two op2.Or = marks.Bar
mark_of_two op2.Xor = marks.Xor
mark_of_two op2.Xnor = marks.Xnor
mark_of_two op2.Iff = marks.Iff
mark_of_two op2.Implies = marks.Arrow

-- the level of an operator or a function of one operand
abbrev pub level_of_one : Op1 → ℕ
level_of_one op1.Not = 2
level_of_one op1.Neg = 4
level_of_one o = 1

-- the level of the operator of two operands that a mark is, or 0
abbrev pub operator_level : Mark → ℕ
operator_level marks.Arrow = 15
operator_level m = level_of (infix_of m)

-- the level of an expression: that of its operator, or 1
abbrev pub level : Tree → ℕ
level (choice p c a b) = 13
level (one p o a) = level_of_one o
level (two p o a b) = operator_level (mark_of_two o)
level x = 1

-- the levels whose operators group to the right
abbrev pub to_right : ℕ → Bool
to_right l = l == 13 || l == 15

-- the levels that the places to the left and to the right of an operator ask
abbrev pub left_level : ℕ → ℕ
left_level l = if to_right l then l - 1 else l

abbrev pub right_level : ℕ → ℕ
right_level l = if to_right l then l else l - 1

-- What may not begin the text of some places: a range that of the operand of a `-`, since the `-`
-- would be read as part of it, and a `!` that of an atom, since it would be read as the formula's.
abbrev pub misread : Lead → Tree → Bool
misread lead.Minus (span p low high) = true
misread lead.Atom (one p op1.Not a) = true
misread l x = false

-- Parentheses stand around a part that is looser than its place asks, or that would be misread where
-- it begins the place's text. Nothing is misread inside of them.
abbrev pub part : Lead → ℕ → Tree → (Lead → List Ink) → List Ink
part l place x inks = if nat_lt place (level x) || misread l x then symbol marks.OpenRound ∷ (inks lead.Free ++ symbol marks.CloseRound ∷ []) else inks l

abbrev pub integer : ℤ → List Ink
integer (pos n) = numeral n ∷ []
integer (negsuc n) = symbol marks.Minus ∷ numeral (suc n) ∷ []

-- names after dots
abbrev pub dotted : List (List ℕ) → List Ink
dotted [] = []
dotted (n ∷ ns) = symbol marks.Dot ∷ token (lexeme.Name n) ∷ dotted ns

-- what a path begins with: a name or `self`
abbrev pub path_head : List ℕ → Lexeme
path_head n = if bytes_eq n (codes "self") then lexeme.Mark marks.SelfWord else lexeme.Name n

abbrev pub path : List (List ℕ) → List Ink
path [] = []
path (n ∷ ns) = token (path_head n) ∷ dotted ns

-- two operands around a mark
abbrev pub around : List Ink → Mark → List Ink → List Ink
around a m b = a ++ (blank ∷ symbol m ∷ blank ∷ b)

-- a function and its operands
abbrev pub call : Mark → List Ink → List Ink
call m inks = symbol m ∷ symbol marks.OpenRound ∷ (inks ++ symbol marks.CloseRound ∷ [])

-- a number behind an operand, and the end of both
abbrev pub width : ℕ → List Ink
width n = symbol marks.Comma ∷ blank ∷ numeral n ∷ symbol marks.CloseRound ∷ []

abbrev pub is_negation : Tree → Bool
is_negation (one p op1.Neg a) = true
is_negation x = false

-- A blank parts the `-` of an operand from a second one: both would begin a comment. No other operand
-- begins with a `-`, since a range stands in parentheses there.
abbrev pub gap : Tree → List Ink
gap a = if is_negation a then blank ∷ [] else []

abbrev pub widening : Bool → Mark
widening resize = if resize then marks.Resize else marks.Extend

abbrev pub constant : Bool → Mark
constant signed = if signed then marks.SwConst else marks.UwConst

unfoldable mutual
  -- An expression without parentheses around it, where that stands before it.
  pub bare : Tree → Lead → List Ink
  bare (truth p b) l = symbol (if b then marks.True else marks.False) ∷ []
  bare (number p n) l = numeral n ∷ []
  bare (word p w) l = token (lexeme.Word w) ∷ []
  bare (name p ns) l = path ns
  bare (span p low high) l = integer low ++ (symbol marks.Dots ∷ integer high)
  bare (set p es) l = symbol marks.OpenCurly ∷ (listed es ++ symbol marks.CloseCurly ∷ [])
  bare (cases p bs) l = symbol marks.Case ∷ blank ∷ (branches bs ++ symbol marks.Esac ∷ [])
  bare (choice p c a b) l = around (part l (left_level 13) c (λ k. bare c k)) marks.Question (around (bare a lead.Free) marks.Colon (part lead.Free (right_level 13) b (λ k. bare b k)))
  bare (one p op1.Not a) l = symbol marks.Bang ∷ part lead.Free 2 a (λ k. bare a k)
  bare (one p op1.Neg a) l = symbol marks.Minus ∷ (gap a ++ part lead.Minus 4 a (λ k. bare a k))
  bare (one p o a) l = call (mark_of_one o) (bare a lead.Free)
  bare (two p o a b) l = around (part l (left_level (level (two p o a b))) a (λ k. bare a k)) (mark_of_two o) (part lead.Free (right_level (level (two p o a b))) b (λ k. bare b k))
  bare (select p a high low) l = part l 1 a (λ k. bare a k) ++ (symbol marks.OpenSquare ∷ numeral high ∷ symbol marks.Colon ∷ numeral low ∷ symbol marks.CloseSquare ∷ [])
  bare (next p a) l = call marks.Next (bare a lead.Free)
  bare (widen p resize a n) l = symbol (widening resize) ∷ symbol marks.OpenRound ∷ (bare a lead.Free ++ width n)
  bare (const p signed v n) l = symbol (constant signed) ∷ symbol marks.OpenRound ∷ (integer v ++ width n)
  bare (count p es) l = call marks.Count (listed es)

  -- expressions with commas between them
  pub listed : Trees → List Ink
  listed no_trees = []
  listed (tree x xs) = bare x lead.Free ++ after_comma xs

  pub after_comma : Trees → List Ink
  after_comma no_trees = []
  after_comma (tree x xs) = symbol marks.Comma ∷ blank ∷ (bare x lead.Free ++ after_comma xs)

  -- the branches of a case, each with a semicolon and a blank behind it
  pub branches : Arms → List Ink
  branches no_arms = []
  branches (arm c v bs) = around (bare c lead.Free) marks.Colon (bare v lead.Free ++ (symbol marks.Semicolon ∷ blank ∷ branches bs))

-- an expression in the place of a part
abbrev pub spelled : Lead → ℕ → Tree → List Ink
spelled l place x = part l place x (λ k. bare x k)

-- the text of an expression
abbrev pub printed : Tree → List ℕ
printed x = text_of (bare x lead.Free)

-- the mark that is written for an operator between formulas
abbrev pub mark_of_claim : FormOp → Mark
mark_of_claim form_op.Until = marks.WordU
mark_of_claim form_op.Releases = marks.WordV
mark_of_claim form_op.And = marks.Ampersand
mark_of_claim form_op.Or = marks.Bar
mark_of_claim form_op.Xor = marks.Xor
mark_of_claim form_op.Xnor = marks.Xnor
mark_of_claim form_op.Iff = marks.Iff
mark_of_claim form_op.Implies = marks.Arrow

-- the level of an operator between formulas
abbrev pub level_of_claim : FormOp → ℕ
level_of_claim o = level_of (joining_by (mark_of_claim o))

-- the levels that the places to its left and to its right ask: the loosest groups to the right
abbrev pub left_of : ℕ → ℕ
left_of l = if l == outermost then l - 1 else l

abbrev pub right_of : ℕ → ℕ
right_of l = if l == outermost then l else l - 1

-- the level of a formula: that of its operator between two formulas, or 1
abbrev pub claim_level : Claim → ℕ
claim_level (both o a b) = level_of_claim o
claim_level c = 1

-- parentheses stand around a formula that is looser than its place asks
abbrev pub claim_part : ℕ → Claim → List Ink → List Ink
claim_part place c inks = if nat_lt place (claim_level c) then symbol marks.OpenRound ∷ (inks ++ symbol marks.CloseRound ∷ []) else inks

-- A formula without parentheses around it. An atom that is looser than a formula's atom may be stands
-- in parentheses.
unfoldable pub claim_inks : Claim → List Ink
claim_inks (atom x) = spelled lead.Atom atomic x
claim_inks (no a) = symbol marks.Bang ∷ claim_part 1 a (claim_inks a)
claim_inks (after a) = symbol marks.WordX ∷ blank ∷ claim_part 1 a (claim_inks a)
claim_inks (always a) = symbol marks.WordG ∷ blank ∷ claim_part 1 a (claim_inks a)
claim_inks (some_time a) = symbol marks.WordF ∷ blank ∷ claim_part 1 a (claim_inks a)
claim_inks (both o a b) = around (claim_part (left_of (level_of_claim o)) a (claim_inks a)) (mark_of_claim o) (claim_part (right_of (level_of_claim o)) b (claim_inks b))

-- the text of a formula
abbrev pub claim_printed : Claim → List ℕ
claim_printed c = text_of (claim_inks c)
