-- How a formula goes on behind its first operand, from tight levels to loose ones.
use Rattle.std.specs.Prelude.{◌≡◌, ◌==◌, ◌-◌, ℕ, suc, max, List, [], ◌∷◌, Option, Some, None, if◌then◌else◌, nat_lt}
use denote.Ref.{Bor}
use Rattle.smv_tree.specs.declared.formula.FormOp.{FormOp}
use Rattle.smv_tree.specs.Models.{both}
use Rattle.smv_token.specs.declared.token.Token.{Token}
use Rattle.smv_grammar.specs.Formulas.{joining, outermost}
use Rattle.smv_rules.specs.Reading.{◌>>=◌, Got}
use Rattle.smv_rules.specs.Formulas.{deeper, formula_level, implied, joined}
use Rattle.smv_rules.specs.Rules.{Rule}
use Rattle.smv_rules.specs.Running.{run}
use Rattle.smv_rules.specs.Sorts.{Formula, a_formula}
use Rattle.smv_formula_reader.specs.FormulaViews.{formula_of}
use Rattle.smv_reader.specs.Steps.{resumed, steps}
use Rattle.smv_formula_reader.specs.declared.formulas.WaitingFormula.{WaitingFormula}

-- the operators of a level behind a formula of the next tighter one
abbrev pub tail : ℕ → Rule a_formula → Formula → Rule a_formula
tail l tighter a = if l == outermost then implied a else joined l tighter a

abbrev pub step : ℕ → ℕ → Formula × List Token → Got Formula
step n i x = run n (tail (suc i) (formula_level i) x.0) x.1

-- the operators of the levels above the first, up to the second
abbrev pub up : ℕ → ℕ → ℕ → Formula × List Token → Got Formula
up n i l x = steps (step n) i (l - i) x

-- An operator at the front that is looser than the first level and no looser than the second: its level,
-- itself, and the tokens behind it.
abbrev pub Connective : Type 0
Connective = ℕ × FormOp × List Token

abbrev pub in_reach : ℕ → ℕ → Option (ℕ × FormOp) → List Token → Option Connective
in_reach i l None ts = None
in_reach i l (Some o) ts = if nat_lt l o.0 then None else (if nat_lt i o.0 then Some (o.0, o.1, ts) else None)

unfoldable pub connective_at : ℕ → ℕ → List Token → Option Connective
connective_at i l [] = None
connective_at i l (t ∷ ts) = in_reach i l (joining t) ts

abbrev pub connective_seen : Option (ℕ × FormOp × Bor (List Token)) → Option Connective
connective_seen None = None
connective_seen (Some x) = Some (x.0, x.1, x.2.now)

-- the operand that waits, with one to the right, and what stands behind both up to the level that was
-- wanted there
abbrev pub both_of : WaitingFormula → Formula → Rule a_formula
both_of w b = deeper (both w.op (formula_of w.left).claim b.claim) (max (formula_of w.left).depth b.depth)

abbrev pub with_left : ℕ → WaitingFormula → Formula × List Token → Got Formula
with_left n w x = run n (both_of w x.0) x.1 >>= up n w.tighter w.loosest

-- all operands that wait, and the formula so far, give what is asked for
abbrev pub Given : (n : ℕ) (ws : List WaitingFormula) (r out : Got Formula) → Type 0
Given n ws r out = resumed (with_left n) ws r ≡ out
