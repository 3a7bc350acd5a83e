-- How an expression goes on behind its first operand, from tight levels to loose ones.
use Rattle.std.specs.Prelude.{◌≡◌, ◌==◌, ◌-◌, ℕ, suc, List, [], ◌∷◌, Option, Some, None, Result, Ok, Err, if◌then◌else◌, nat_lt, length}
use denote.Ref.{Bor}
use Rattle.smv_tree.specs.declared.place.Place.{Place}
use Rattle.smv_tree.specs.declared.expr.Op1.{Op1}
use Rattle.smv_tree.specs.declared.expr.Op1.TheVariants as op1
use Rattle.smv_tree.specs.declared.expr.Op2.{Op2}
use Rattle.smv_token.specs.declared.mark.Mark.{Mark}
use Rattle.smv_token.specs.declared.mark.Mark.TheVariants as marks
use Rattle.smv_token.specs.declared.token.Token.{Token}
use Rattle.smv_grammar.specs.Forms.{begins_range, infix_of}
use Rattle.smv_grammar.specs.Levels.{level_of}
use Rattle.smv_reader.specs.declared.halt.Halt.{Halt}
use Rattle.smv_reader.specs.Halts.{Halts}
use Rattle.smv_rules.specs.Reading.{Stop, wrong, ◌>>=◌, Got}
use Rattle.smv_rules.specs.Keys.{mark_of}
use Rattle.smv_rules.specs.Rules.{Rule, gives, too_deep, part, bits}
use Rattle.smv_rules.specs.Running.{run}
use Rattle.smv_rules.specs.Sorts.{Expression, an_expression}
use Rattle.smv_rules.specs.Expressions.{choosing, chosen, implied, implying, joined, level, selected}
use Rattle.smv_reader.specs.Steps.{steps}
use Rattle.smv_reader.specs.Views.{expression_of}
use Rattle.smv_reader.specs.declared.parsed.Parsed.{Parsed}

-- the operators of a level behind an expression of the next tighter one
abbrev pub tail : ℕ → Rule an_expression → Expression → Rule an_expression
tail l tighter a =
    if l == 1 then selected a
    else (if l == 2 then gives an_expression a
    else (if l == 4 then gives an_expression a
    else (if l == 13 then chosen a
    else (if l == 15 then implied a
    else joined l tighter a))))

abbrev pub step : ℕ → ℕ → Expression × List Token → Got Expression
step n i x = run n (tail (suc i) (level i) x.0) x.1

-- the operators of so many levels behind an expression of a level
abbrev pub climb : ℕ → ℕ → ℕ → Expression × List Token → Got Expression
climb n i j x = steps (step n) i j x

-- the operators of the levels above the first, up to the second
abbrev pub up : ℕ → ℕ → ℕ → Expression × List Token → Got Expression
up n i l x = climb n i (l - i) x

-- the level of an operator behind an expression, or 0
abbrev pub level_by : Mark → ℕ
level_by marks.OpenSquare = 1
level_by marks.Question = 13
level_by marks.Arrow = 15
level_by m = level_of (infix_of m)

abbrev pub marked_level : Option Mark → ℕ
marked_level None = 0
marked_level (Some m) = level_by m

unfoldable pub next_level : List Token → ℕ
next_level [] = 0
next_level (t ∷ ts) = marked_level (mark_of t.lexeme)

-- An operator between operands at the front: its level, itself, its place, and the tokens behind it.
abbrev pub Infix : Type 0
Infix = ℕ × Op2 × Place × List Token

abbrev pub as_infix : Option (ℕ × Op2) → Place → List Token → Option Infix
as_infix None p ts = None
as_infix (Some o) p ts = Some (o.0, o.1, p, ts)

abbrev pub marked_infix : Option Mark → Place → List Token → Option Infix
marked_infix None p ts = None
marked_infix (Some m) p ts = as_infix (infix_of m) p ts

unfoldable pub infix_at : List Token → Option Infix
infix_at [] = None
infix_at (t ∷ ts) = marked_infix (mark_of t.lexeme) t.place ts

abbrev pub infix_seen : Option (ℕ × Op2 × Place × Bor (List Token)) → Option Infix
infix_seen None = None
infix_seen (Some x) = Some (x.0, x.1, x.2, x.3.now)

-- An operator before an operand of a level: the level of its operand, itself, its place, and the tokens
-- behind it. A `-` stands before none of a level tighter than 4.
abbrev pub Prefix : Type 0
Prefix = ℕ × Op1 × Place × List Token

abbrev pub prefix_by : ℕ → Option Mark → Place → List Token → Option Prefix
prefix_by l (Some marks.Bang) p ts = Some (2, op1.Not, p, ts)
prefix_by l (Some marks.Minus) p ts = if nat_lt l 4 then None else (if begins_range ts then None else Some (4, op1.Neg, p, ts))
prefix_by l m p ts = None

unfoldable pub prefix_at : ℕ → List Token → Option Prefix
prefix_at l [] = None
prefix_at l (t ∷ ts) = prefix_by l (mark_of t.lexeme) t.place ts

abbrev pub prefix_seen : Option (ℕ × Op1 × Place × Bor (List Token)) → Option Prefix
prefix_seen None = None
prefix_seen (Some x) = Some (x.0, x.1, x.2, x.3.now)

-- What was read so far leads to what the function gives, unless memory ran out.
abbrev pub Leads : {X Y : Type 0} → (X → Result Y Stop) → Result X Halt → Result Y Stop → Type 0
Leads go (Ok x) out = out ≡ go x
Leads go (Err h) out = Halts h out

-- what was read, behind the level that is reached
abbrev pub so_far : ℕ × Parsed × Bor (List Token) → Expression × List Token
so_far x = (expression_of x.1, x.2.now)

-- what an operator adds that stands behind an expression and is no operator between operands, behind the
-- level that is reached with it
abbrev pub reached : ℕ → Got Expression → Result (ℕ × (Expression × List Token)) Stop
reached l r = r >>= (λ x. Ok (l, x))

abbrev pub closed_by : ℕ → Expression → Option Mark → Place → List Token → Result (ℕ × (Expression × List Token)) Stop
closed_by n a (Some marks.OpenSquare) p ts = reached 0 (run n (part an_expression (bits a p) (too_deep an_expression)) ts)
closed_by n a (Some marks.Question) p ts = reached 13 (run n (choosing a p) ts)
closed_by n a (Some marks.Arrow) p ts = reached 15 (run n (implying a p) ts)
closed_by n a m p ts = Err (wrong (suc (length ts)))

unfoldable pub closed_at : ℕ → Expression → List Token → Result (ℕ × (Expression × List Token)) Stop
closed_at n a [] = Err (wrong 0)
closed_at n a (t ∷ ts) = closed_by n a (mark_of t.lexeme) t.place ts
