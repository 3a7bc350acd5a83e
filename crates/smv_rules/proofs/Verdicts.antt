-- The verdict by the rules of expressions, formulas and programs is right.
use Rattle.std.proofs.Common.{◌≡◌, ℕ, List, sym, ◌∙◌, ap}
use Rattle.smv_tree.specs.Models.{Body, Claim}
use Rattle.smv_tree.specs.Trees.{Tree}
use Rattle.smv_rules.proofs.PlainLaws.{Whole, expression_whole, formula_whole, plain_decides, program_whole}
use Rattle.smv_rules.proofs.Judging.{explained_law, found_law, one_law, only_law, refused_law}
use Rattle.smv_rules.specs.Sorts.{Gift, Sort}
use Rattle.smv_rules.specs.Rules.{Rule}
use Rattle.smv_rules.specs.Expressions.{expr}
use Rattle.smv_rules.specs.Programs.{program}
use Rattle.smv_rules.specs.Texts.{SpellsProgram}
use Rattle.smv_rules.specs.PartTexts.{SpellsExpr, SpellsFormulaText, SpellsSeen, claim_of, formula, tree_of}
use Rattle.smv_rules.specs.WholeReading.{Right}

right : {s : Sort} (r : Rule s) → Whole r → Right r
right r w =
    let law = plain_decides r w in
    record {
      found = λ bytes x e. found_law law bytes x e;
      only = λ bytes x h. only_law law bytes x h;
      refused = λ bytes f e. refused_law law bytes f e;
      cause = λ bytes f h. explained_law law bytes f h;
      one = λ bytes x y a b. one_law law bytes x y a b;
    }

pub expression_right : Right expr
expression_right = right expr expression_whole

pub formula_right : Right formula
formula_right = right formula formula_whole

pub program_right : Right program
program_right = right program program_whole

-- a text spells at most one
one_seen : {s : Sort} {Y : Type 0} (r : Rule s) (seen : Gift s → Y) → Right r → (bytes : List ℕ) (x y : Y) → SpellsSeen r seen bytes x → SpellsSeen r seen bytes y → x ≡ y
one_seen r seen right bytes x y a b = sym a.is ∙ ap seen (right.one bytes a.given b.given a.spelled b.spelled) ∙ b.is

pub one_expression : (bytes : List ℕ) (x y : Tree) → SpellsExpr bytes x → SpellsExpr bytes y → x ≡ y
one_expression bytes x y a b = one_seen expr tree_of expression_right bytes x y a b

pub one_formula : (bytes : List ℕ) (x y : Claim) → SpellsFormulaText bytes x → SpellsFormulaText bytes y → x ≡ y
one_formula bytes x y a b = one_seen formula claim_of formula_right bytes x y a b

pub one_program : (bytes : List ℕ) (x y : List Body) → SpellsProgram bytes x → SpellsProgram bytes y → x ≡ y
one_program bytes x y a b = program_right.one bytes x y a b
