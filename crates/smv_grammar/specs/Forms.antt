-- The tables of expressions: functions and operators with their levels, and what numbers stand as.
use Rattle.std.specs.Prelude.{min, ℕ, ℤ, pos, neg_ℤ, Bool, true, false, List, [], ◌∷◌, Option, Some, None, if◌then◌else◌}
use Rattle.smv_tree.specs.declared.expr.Op1.{Op1}
use Rattle.smv_tree.specs.declared.expr.Op1.TheVariants as op1
use Rattle.smv_tree.specs.declared.expr.Op2.{Op2}
use Rattle.smv_tree.specs.declared.expr.Op2.TheVariants as op2
use Rattle.smv_token.specs.declared.mark.Mark.{Mark}
use Rattle.smv_token.specs.declared.mark.Mark.TheVariants as marks
use Rattle.smv_token.specs.declared.token.Token.{Token}
use Rattle.smv_token.specs.declared.token.Lexeme.{Lexeme}
use Rattle.smv_token.specs.declared.token.Lexeme.TheVariants as lexeme

-- how many nestings may be open, and how deep an expression may be
abbrev pub deepest : ℕ
deepest = 1000

-- a width or the place of a bit: what is above 2 ^ 32 - 1 stands as that
abbrev pub capped : ℕ → ℕ
capped n = min n 4294967295

-- a number with a `-` before it or not; no token has a greater one than 2 ^ 63 - 1
abbrev pub integer : Bool → ℕ → ℤ
integer below n = if below then neg_ℤ (pos (min n 9223372036854775807)) else pos (min n 9223372036854775807)

-- the functions of one operand
abbrev pub function_of : Mark → Option Op1
function_of marks.WordOne = Some op1.Word1
function_of marks.BoolOf = Some op1.Bool
function_of marks.Signed = Some op1.Signed
function_of marks.Unsigned = Some op1.Unsigned
function_of marks.ToInt = Some op1.ToInt
function_of m = None

-- the operators that group to the left, with their levels
abbrev pub infix_of : Mark → Option (ℕ × Op2)
infix_of marks.Concat = Some (3, op2.Concat)
infix_of marks.Star = Some (5, op2.Mul)
infix_of marks.Slash = Some (5, op2.Div)
infix_of marks.Mod = Some (5, op2.Mod)
infix_of marks.Plus = Some (6, op2.Add)
infix_of marks.Minus = Some (6, op2.Sub)
infix_of marks.ShiftLeft = Some (7, op2.Shl)
infix_of marks.ShiftRight = Some (7, op2.Shr)
infix_of marks.Union = Some (8, op2.Union)
infix_of marks.InWord = Some (9, op2.In)
infix_of marks.Equals = Some (10, op2.Eq)
infix_of marks.Differs = Some (10, op2.Ne)
infix_of marks.Less = Some (10, op2.Lt)
infix_of marks.Greater = Some (10, op2.Gt)
infix_of marks.AtMost = Some (10, op2.Le)
infix_of marks.AtLeast = Some (10, op2.Ge)
infix_of marks.Ampersand = Some (11, op2.And)
infix_of marks.Bar = Some (12, op2.Or)
infix_of marks.Xor = Some (12, op2.Xor)
infix_of marks.Xnor = Some (12, op2.Xnor)
infix_of marks.Iff = Some (14, op2.Iff)
infix_of m = None

abbrev pub is_number : Lexeme → Bool
is_number (lexeme.Number n) = true
is_number x = false

abbrev pub is_dots : Lexeme → Bool
is_dots (lexeme.Mark marks.Dots) = true
is_dots l = false

abbrev pub begins_dots : List Token → Bool
begins_dots [] = false
begins_dots (t ∷ ts) = is_dots t.lexeme

-- whether a number and a `..` are at the front
abbrev pub begins_range : List Token → Bool
begins_range [] = false
begins_range (t ∷ ts) = if is_number t.lexeme then begins_dots ts else false
