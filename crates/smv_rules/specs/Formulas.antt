-- The grammar of formulas.
use Rattle.std.specs.Prelude.{◌==◌, ℕ, zero, suc, max, if◌then◌else◌, nat_lt}
use Rattle.smv_tree.specs.declared.formula.FormOp.{FormOp}
use Rattle.smv_tree.specs.Models.{Claim, atom, both}
use Rattle.smv_token.specs.declared.mark.Mark.TheVariants as marks
use Rattle.smv_grammar.specs.Forms.{deepest}
use Rattle.smv_grammar.specs.Formulas.{atomic, outermost}
use Rattle.smv_rules.specs.Keys as key
use Rattle.smv_rules.specs.Rules.{Rule, gives, too_deep, must, may, part, again, formula, ◌>>=◌}
use Rattle.smv_rules.specs.Expressions.{level, mark}
use Rattle.smv_rules.specs.Sorts.{Formula, a_formula}

-- one deeper than its deepest part, if it may be so deep
abbrev pub deeper : Claim → ℕ → Rule a_formula
deeper x d = if nat_lt d deepest then gives a_formula (record { claim = x; depth = suc d }) else too_deep a_formula

-- a formula of a level that is nested once more: behind a token that opens it, or open from its own
-- first token
abbrev pub opened : ℕ → Rule a_formula
opened l = part a_formula (formula l) (too_deep a_formula)

abbrev pub side : Rule a_formula
side = part a_formula (formula outermost) (must a_formula key.formula_operand (λ p. too_deep a_formula))

-- an atom: an expression of level 10
abbrev pub an_atom : Rule a_formula
an_atom = level atomic >>= (λ x. gives a_formula (record { claim = atom x.tree; depth = x.depth }))

-- an operand behind an operator before it, and a formula and its `)`
abbrev pub prefixed : (Claim → Claim) → Rule a_formula
prefixed f = opened 1 >>= (λ a. deeper (f a.claim) a.depth)

abbrev pub enclosed : Rule a_formula
enclosed = do
  a ← opened outermost
  q ← mark marks.CloseRound
  deeper a.claim a.depth

-- `!`, `X`, `G` or `F` before an operand, brackets around a formula, or an atom
abbrev pub operand : Rule a_formula
operand = may a_formula key.before_formula (λ f. prefixed f) (may a_formula key.group (λ p. enclosed) an_atom)

-- the right operand of an operator, behind it
abbrev pub connected : Rule a_formula → Formula → FormOp → Rule a_formula
connected right a o = right >>= (λ b. deeper (both o a.claim b.claim) (max a.depth b.depth))

-- the operators of one level between operands, from the left
abbrev pub joined : ℕ → Rule a_formula → Formula → Rule a_formula
joined l tighter a = again a_formula (key.connective l) (λ a o. connected tighter a o) a

-- [ "->" formula ]
abbrev pub implied : Formula → Rule a_formula
implied a = may a_formula (key.connective outermost) (λ o. connected side a o) (gives a_formula a)

-- a formula of a level, from one of the next tighter level
abbrev pub level_from : ℕ → Rule a_formula → Rule a_formula
level_from l tighter =
    if l == 1 then operand
    else (if l == outermost then tighter >>= implied
    else tighter >>= joined l tighter)

-- a formula of a level or of a tighter one; the loosest is 6
unfoldable pub formula_level : ℕ → Rule a_formula
formula_level zero = operand
formula_level (suc l) = level_from (suc l) (formula_level l)
