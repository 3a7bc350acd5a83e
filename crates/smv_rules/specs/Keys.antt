-- What the next token is asked for, and what it then tells.
use Rattle.std.specs.Prelude.{◌≡◌, ◌==◌, ℕ, Bool, true, false, List, [], ◌∷◌, Option, Some, None, if◌then◌else◌, codes}
use Rattle.smv_tree.specs.declared.place.Place.{Place}
use Rattle.smv_tree.specs.declared.expr.Op1.{Op1}
use Rattle.smv_tree.specs.declared.expr.Op2.{Op2}
use Rattle.smv_tree.specs.declared.formula.FormOp.{FormOp}
use Rattle.smv_tree.specs.declared.program.Kind.{Kind}
use Rattle.smv_tree.specs.declared.program.Kind.TheVariants as kind
use Rattle.smv_tree.specs.declared.program.Moment.{Moment}
use Rattle.smv_tree.specs.declared.program.Moment.TheVariants as moment
use Rattle.smv_tree.specs.declared.program.Section.{Section}
use Rattle.smv_tree.specs.declared.program.Section.TheVariants as sections
use Rattle.smv_tree.specs.Models.{Claim}
use Rattle.smv_tree.specs.Word.{Word}
use Rattle.smv_token.specs.declared.mark.Mark.{Mark}
use Rattle.smv_token.specs.declared.mark.Mark.TheVariants as marks
use Rattle.smv_token.specs.declared.token.Token.{Token}
use Rattle.smv_token.specs.declared.token.Lexeme.{Lexeme}
use Rattle.smv_token.specs.declared.token.Lexeme.TheVariants as lexeme
use Rattle.smv_grammar.specs.Forms.{begins_range, function_of, infix_of}
use Rattle.smv_grammar.specs.Formulas.{Start, before_operand, bracket, of_atom, joining, start_of}
use Rattle.smv_grammar.specs.IsMark.{is_mark}

-- What opens a nesting: `(`, `{`, `case`, `count`, `next`, a function of one operand, `extend` or (with
-- true) `resize`, `uwconst` or (with true) `swconst`.
pub data Opener : Type 0 where
  round : Opener
  set : Opener
  branches : Opener
  count : Opener
  next : Opener
  function : Op1 → Opener
  widen : Bool → Opener
  const : Bool → Opener

-- What a primary expression begins with: a truth value, the first name of a path, a number, a `-` that
-- begins a range, a word constant, or what opens a nesting.
pub data Primary : Type 0 where
  truth : Bool → Primary
  path : List ℕ → Primary
  digits : ℕ → Primary
  below : Primary
  word : Word → Primary
  opens : Opener → Primary

-- What a section holds: variables, where the flag says whether instances may stand among them;
-- definitions; assignments; one constraint; one property.
pub data Heading : Type 0 where
  variables : Kind → Bool → Heading
  definitions : Heading
  assignments : Heading
  constraints : Section → Heading
  properties : Heading

-- what an assignment begins with: its name, or the word before the name in brackets
pub data Target : Type 0 where
  itself : List ℕ → Target
  of_moment : Moment → Target

-- What a token may be asked for: a mark; a name; a number, without its place or with it; the beginning
-- of a primary expression; a `-` before an operand; a `;` before a further branch of a case, or before its
-- end; an operator of a level; the beginning of any expression. Of formulas: an operator before one; a `(`
-- that opens one; an operator of a level; the beginning of any formula. Of programs: the word of a section;
-- the beginning of an assignment.
pub data Key : Type 0 where
  mark : Mark → Key
  name : Key
  number : Key
  counted : Key
  primary : Key
  minus : Key
  further : Key
  closing : Key
  operator : ℕ → Key
  operand : Key
  before_formula : Key
  group : Key
  connective : ℕ → Key
  formula_operand : Key
  heading : Key
  target : Key

abbrev pub Payload : Key → Type 0
Payload (mark m) = Place
Payload name = List ℕ × Place
Payload number = ℕ
Payload counted = ℕ × Place
Payload primary = Primary × Place
Payload minus = Place
Payload further = Place
Payload closing = Place
Payload (operator l) = Op2 × Place
Payload operand = Place
Payload before_formula = Claim → Claim
Payload group = Place
Payload (connective l) = FormOp
Payload formula_operand = Place
Payload heading = Heading × Place
Payload target = Target × Place

abbrev pub with_place : {X : Type 0} → Option X → Place → Option (X × Place)
with_place None p = None
with_place (Some x) p = Some (x, p)

abbrev pub name_of : Lexeme → Option (List ℕ)
name_of (lexeme.Name n) = Some n
name_of (lexeme.Mark m) = None
name_of (lexeme.Number n) = None
name_of (lexeme.Word w) = None

abbrev pub number_of : Lexeme → Option ℕ
number_of (lexeme.Number n) = Some n
number_of (lexeme.Name n) = None
number_of (lexeme.Mark m) = None
number_of (lexeme.Word w) = None

abbrev pub mark_of : Lexeme → Option Mark
mark_of (lexeme.Mark m) = Some m
mark_of (lexeme.Name n) = None
mark_of (lexeme.Number n) = None
mark_of (lexeme.Word w) = None

abbrev pub by_mark : {X : Type 0} → (Mark → Option X) → Option Mark → Option X
by_mark f None = None
by_mark f (Some m) = f m

abbrev pub as_function : Option Op1 → Option Primary
as_function None = None
as_function (Some o) = Some (opens (function o))

-- what each mark begins: as an expression, as a section, as an assignment
unfoldable pub primary_by : Mark → Option Primary
primary_by marks.True = Some (truth true)
primary_by marks.False = Some (truth false)
primary_by marks.SelfWord = Some (path (codes "self"))
primary_by marks.Minus = Some below
primary_by marks.OpenRound = Some (opens round)
primary_by marks.OpenCurly = Some (opens set)
primary_by marks.Case = Some (opens branches)
primary_by marks.Count = Some (opens count)
primary_by marks.Next = Some (opens next)
primary_by marks.UwConst = Some (opens (const false))
primary_by marks.SwConst = Some (opens (const true))
primary_by marks.Extend = Some (opens (widen false))
primary_by marks.Resize = Some (opens (widen true))
primary_by m = as_function (function_of m)

abbrev pub primary_of : Lexeme → Option Primary
primary_of (lexeme.Name n) = Some (path n)
primary_of (lexeme.Mark m) = primary_by m
primary_of (lexeme.Number n) = Some (digits n)
primary_of (lexeme.Word w) = Some (word w)

-- what is of a level
abbrev pub of_level : {X : Type 0} → ℕ → Option (ℕ × X) → Option X
of_level l None = None
of_level l (Some x) = if x.0 == l then Some x.1 else None

abbrev pub if_there : {X : Type 0} → Bool → X → Option X
if_there true x = Some x
if_there false x = None

abbrev pub present : {X : Type 0} → Option X → Bool
present None = false
present (Some x) = true

-- a primary expression or an operator before one
abbrev pub is_operand : Lexeme → Bool
is_operand l = if is_mark marks.Bang l then true else present (primary_of l)

abbrev pub prefix_of : Start → Option (Claim → Claim)
prefix_of (before_operand f) = Some f
prefix_of bracket = None
prefix_of of_atom = None

abbrev pub is_bracket : Start → Bool
is_bracket bracket = true
is_bracket (before_operand f) = false
is_bracket of_atom = false

unfoldable pub heading_by : Mark → Option Heading
heading_by marks.Var = Some (variables kind.State true)
heading_by marks.InputVar = Some (variables kind.Input false)
heading_by marks.FrozenVar = Some (variables kind.Frozen false)
heading_by marks.Define = Some definitions
heading_by marks.Assign = Some assignments
heading_by marks.Init = Some (constraints sections.Init)
heading_by marks.Trans = Some (constraints sections.Trans)
heading_by marks.Invar = Some (constraints sections.Invar)
heading_by marks.LtlSpec = Some properties
heading_by m = None

unfoldable pub target_by : Mark → Option Target
target_by marks.InitOf = Some (of_moment moment.First)
target_by marks.Next = Some (of_moment moment.Next)
target_by m = None

abbrev pub target_of : Lexeme → Option Target
target_of (lexeme.Name n) = Some (itself n)
target_of (lexeme.Mark m) = target_by m
target_of (lexeme.Number n) = None
target_of (lexeme.Word w) = None

abbrev pub begins_with : Mark → List Token → Bool
begins_with m [] = false
begins_with m (t ∷ ts) = is_mark m t.lexeme

-- What a token tells where it is what is asked for. Some keys look at what stands behind it: a `-` is no
-- operator where it begins a range, a `(` opens a formula where its group says so, and behind a `;` of a
-- case stands `esac` or a further branch.
unfoldable pub sees : (k : Key) → Token → List Token → Option (Payload k)
sees (mark m) t ts = if_there (is_mark m t.lexeme) t.place
sees name t ts = with_place (name_of t.lexeme) t.place
sees number t ts = number_of t.lexeme
sees counted t ts = with_place (number_of t.lexeme) t.place
sees primary t ts = with_place (primary_of t.lexeme) t.place
sees minus t ts = if begins_range ts then None else if_there (is_mark marks.Minus t.lexeme) t.place
sees further t ts = if begins_with marks.Esac ts then None else if_there (is_mark marks.Semicolon t.lexeme) t.place
sees closing t ts = if begins_with marks.Esac ts then if_there (is_mark marks.Semicolon t.lexeme) t.place else None
sees (operator l) t ts = with_place (of_level l (by_mark infix_of (mark_of t.lexeme))) t.place
sees operand t ts = if_there (is_operand t.lexeme) t.place
sees before_formula t ts = prefix_of (start_of (t ∷ ts))
sees group t ts = if_there (is_bracket (start_of (t ∷ ts))) t.place
sees (connective l) t ts = of_level l (joining t)
sees formula_operand t ts = if present (prefix_of (start_of (t ∷ ts))) then Some t.place else if_there (is_operand t.lexeme) t.place
sees heading t ts = with_place (by_mark heading_by (mark_of t.lexeme)) t.place
sees target t ts = with_place (target_of t.lexeme) t.place

-- the first token is not what is asked for, or there is none
abbrev pub Unseen : Key → List Token → Type 0
Unseen k [] = Unit {0}
Unseen k (t ∷ ts) = sees k t ts ≡ None
