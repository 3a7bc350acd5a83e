-- What a printer has written.
use Rattle.std.specs.Io.KnownBytes.{append_known}
use Rattle.std.specs.Prelude.{◌≡◌, ℕ, Bool, true, false, List, [], ◌∷◌, Result}
use Rattle.outside.specs.declared.Failed.{Failed}
use Rattle.outside.specs.Calls.{Writes}
use Rattle.outside.specs.Told.{Output}
use Rattle.smv_tree.specs.Models.{Claim, both}
use Rattle.smv_tree.specs.Trees.{Tree, Trees, choice, two}
use Rattle.smv_printing.specs.declared.lead.Lead.{Lead}
use Rattle.smv_printing.specs.declared.lead.Lead.TheVariants as lead
use Rattle.smv_token.specs.declared.mark.Mark.TheVariants as marks
use Rattle.smv_rules.specs.PartTexts.{SpellsExpr, SpellsFormulaText}
use Rattle.smv_printing.specs.Alike.{Alike, AlikeClaims}
use Rattle.smv_printing.specs.Printing.{Ink, after_comma, bare, blank, claim_inks, claim_part, level, level_of_claim, listed, right_level, spelled, symbol, text_of, left_level, left_of, right_of}

-- what was written is a text that spells the expression, places aside
pub record WroteAlike (old new : Output) (x : Tree) : Type 0 where
  pub text : List ℕ
  pub written : new.written ≡ append_known old.written text
  pub tree : Tree
  pub spelled : SpellsExpr text tree
  pub alike : Alike x tree

-- what was written is a text that spells the formula, places aside
pub record WroteAlikeFormula (old new : Output) (c : Claim) : Type 0 where
  pub text : List ℕ
  pub written : new.written ≡ append_known old.written text
  pub claim : Claim
  pub spelled : SpellsFormulaText text claim
  pub alike : AlikeClaims c claim

-- The bytes of what is printed were written. It is a record, so that a proof finds what is printed.
pub record Prints {X : Type 0} (inks : List Ink) (old : Output) (result : Result X Failed) (new : Output) : Type 0 where
  pub written : Writes (text_of inks) old result new

-- the operands of an operator in their places: none of what is no operator
abbrev pub left_inks : Tree → Lead → List Ink
left_inks (choice p c a b) l = spelled l (left_level 13) c
left_inks (two p o a b) l = spelled l (left_level (level (two p o a b))) a
left_inks x l = []

abbrev pub then_inks : Tree → List Ink
then_inks (choice p c a b) = bare a lead.Free
then_inks x = []

abbrev pub right_inks : Tree → List Ink
right_inks (choice p c a b) = spelled lead.Free (right_level 13) b
right_inks (two p o a b) = spelled lead.Free (right_level (level (two p o a b))) b
right_inks x = []

-- what stands before an expression of a list that is not the first
abbrev pub separator : Bool → List Ink
separator false = []
separator true = symbol marks.Comma ∷ blank ∷ []

-- the expressions of a list from one on, which is not the first where the flag says so
abbrev pub listed_from : Bool → Trees → List Ink
listed_from false xs = listed xs
listed_from true xs = after_comma xs

-- the operands of an operator between formulas
abbrev pub claim_left_inks : Claim → List Ink
claim_left_inks (both o a b) = claim_part (left_of (level_of_claim o)) a (claim_inks a)
claim_left_inks c = []

abbrev pub claim_right_inks : Claim → List Ink
claim_right_inks (both o a b) = claim_part (right_of (level_of_claim o)) b (claim_inks b)
claim_right_inks c = []
