-- The tables of formulas: what an operand begins with, and the operators with their levels.
use Rattle.std.specs.Prelude.{ℕ, zero, suc, Bool, true, false, List, [], ◌∷◌, Option, Some, None}
use Rattle.std.specs.List.{list_any}
use Rattle.smv_tree.specs.declared.formula.FormOp.{FormOp}
use Rattle.smv_tree.specs.declared.formula.FormOp.TheVariants as op
use Rattle.smv_tree.specs.Models.{Claim, no, after, always, some_time}
use Rattle.smv_token.specs.declared.mark.Mark.{Mark}
use Rattle.smv_token.specs.declared.mark.Mark.TheVariants as marks
use Rattle.smv_token.specs.declared.token.Token.{Token}
use Rattle.smv_token.specs.declared.token.Lexeme.{Lexeme}
use Rattle.smv_token.specs.declared.token.Lexeme.TheVariants as lexeme

-- What a token is to the group of a `(`: another one, one that closes, a word that formulas alone have,
-- or anything else.
pub data Role : Type 0 where
  opens : Role
  closes : Role
  temporal : Role
  plain : Role

abbrev pub role_of_mark : Mark → Role
role_of_mark marks.OpenRound = opens
role_of_mark marks.CloseRound = closes
role_of_mark marks.WordX = temporal
role_of_mark marks.WordG = temporal
role_of_mark marks.WordF = temporal
role_of_mark marks.WordU = temporal
role_of_mark marks.WordV = temporal
role_of_mark m = plain

abbrev pub role_of : Lexeme → Role
role_of (lexeme.Mark m) = role_of_mark m
role_of (lexeme.Name n) = plain
role_of (lexeme.Number n) = plain
role_of (lexeme.Word w) = plain

abbrev pub role : Token → Role
role t = role_of t.lexeme

abbrev pub is_temporal : Role → Bool
is_temporal temporal = true
is_temporal r = false

abbrev pub group_on : Role → ℕ → Token → (ℕ → List Token) → List Token
group_on opens n t more = t ∷ more (suc n)
group_on closes zero t more = []
group_on closes (suc n) t more = t ∷ more n
group_on temporal n t more = t ∷ more n
group_on plain n t more = t ∷ more n

-- What stands behind a `(` up to its `)`, or to the end of the tokens, where so many brackets inside it
-- are still open.
unfoldable pub group : ℕ → List Token → List Token
group n [] = []
group n (t ∷ ts) = group_on (role t) n t (λ m. group m ts)

-- whether the group that these tokens begin holds a word that formulas alone have
unfoldable pub holds_temporal : ℕ → List Token → Bool
holds_temporal n ts = list_any (λ t. is_temporal (role t)) (group n ts)

-- What an operand begins with: an operator before an operand, a `(` that opens a formula, or an atom.
pub data Start : Type 0 where
  before_operand : (Claim → Claim) → Start
  bracket : Start
  of_atom : Start

abbrev pub bracket_if : Bool → Start
bracket_if true = bracket
bracket_if false = of_atom

abbrev pub start_by : Mark → Bool → Start
start_by marks.Bang h = before_operand no
start_by marks.WordX h = before_operand after
start_by marks.WordG h = before_operand always
start_by marks.WordF h = before_operand some_time
start_by marks.OpenRound h = bracket_if h
start_by m h = of_atom

abbrev pub start_at : Lexeme → Bool → Start
start_at (lexeme.Mark m) h = start_by m h
start_at (lexeme.Name n) h = of_atom
start_at (lexeme.Number n) h = of_atom
start_at (lexeme.Word w) h = of_atom

-- what the tokens begin with
abbrev pub start_of : List Token → Start
start_of [] = of_atom
start_of (t ∷ ts) = start_at t.lexeme (holds_temporal 0 ts)

-- the operators between operands, with their levels
abbrev pub joining_by : Mark → Option (ℕ × FormOp)
joining_by marks.WordU = Some (2, op.Until)
joining_by marks.WordV = Some (2, op.Releases)
joining_by marks.Ampersand = Some (3, op.And)
joining_by marks.Bar = Some (4, op.Or)
joining_by marks.Xor = Some (4, op.Xor)
joining_by marks.Xnor = Some (4, op.Xnor)
joining_by marks.Iff = Some (5, op.Iff)
joining_by marks.Arrow = Some (6, op.Implies)
joining_by m = None

abbrev pub joining_of : Lexeme → Option (ℕ × FormOp)
joining_of (lexeme.Mark m) = joining_by m
joining_of (lexeme.Name n) = None
joining_of (lexeme.Number n) = None
joining_of (lexeme.Word w) = None

abbrev pub joining : Token → Option (ℕ × FormOp)
joining t = joining_of t.lexeme

-- the loosest level of formulas, and the loosest of the expressions that are atoms
abbrev pub outermost : ℕ
outermost = 6

abbrev pub atomic : ℕ
atomic = 10
