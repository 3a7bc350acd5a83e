-- What whole texts spell as an expression or as a formula.
use Rattle.std.specs.Prelude.{◌≡◌, ℕ, List}
use Rattle.smv_tree.specs.Models.{Claim}
use Rattle.smv_tree.specs.Trees.{Tree}
use Rattle.smv_grammar.specs.declared.fault.ParseFault.{ParseFault}
use Rattle.smv_grammar.specs.Formulas.{outermost}
use Rattle.smv_rules.specs.Sorts.{Expression, Formula, Gift, Sort, a_formula}
use Rattle.smv_rules.specs.Rules.{Rule}
use Rattle.smv_rules.specs.Expressions.{expr}
use Rattle.smv_rules.specs.Formulas.{formula_level}
use Rattle.smv_rules.specs.Texts.{ExplainsBy, SpellsBy}

abbrev pub formula : Rule a_formula
formula = formula_level outermost

-- the text spells this, as a function sees what the rule gives
pub record SpellsSeen {s : Sort} {Y : Type 0} (r : Rule s) (seen : Gift s → Y) (bytes : List ℕ) (y : Y) : Type 0 where
  pub given : Gift s
  pub spelled : SpellsBy r bytes given
  pub is : seen given ≡ y

abbrev pub tree_of : Expression → Tree
tree_of x = x.tree

abbrev pub claim_of : Formula → Claim
claim_of x = x.claim

-- the text spells this expression, this formula
abbrev pub SpellsExpr : List ℕ → Tree → Type 0
SpellsExpr bytes x = SpellsSeen expr tree_of bytes x

abbrev pub SpellsFormulaText : List ℕ → Claim → Type 0
SpellsFormulaText bytes x = SpellsSeen formula claim_of bytes x

-- why a text spells no expression, no formula
abbrev pub ExplainsExpr : List ℕ → ParseFault → Type 0
ExplainsExpr bytes f = ExplainsBy expr bytes f

abbrev pub ExplainsFormula : List ℕ → ParseFault → Type 0
ExplainsFormula bytes f = ExplainsBy formula bytes f
