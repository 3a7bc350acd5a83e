-- What is printed of what a text spells is a text that spells it again, places aside.
use Rattle.std.proofs.Common.{◌≡◌, ℕ, false, List, [], refl, subst, arith}
use Rattle.smv_tree.specs.Models.{Claim}
use Rattle.smv_tree.specs.Trees.{Tree}
use Rattle.smv_grammar.specs.Forms.{deepest}
use Rattle.smv_rules.specs.Expressions.{expr}
use Rattle.smv_rules.specs.Sorts.{Expression, Formula}
use Rattle.smv_rules.specs.Texts.{SpellsBy}
use Rattle.smv_rules.specs.PartTexts.{SpellsExpr, SpellsFormulaText, formula}
use Rattle.smv_printing.specs.Alike.{Reparsed, ReparsedFormula}
use Rattle.smv_printing.specs.declared.lead.Lead.TheVariants as lead
use Rattle.smv_printing.specs.Printing.{bare, claim_inks, claim_printed, printed}
use Rattle.smv_printing.proofs.Says.{lays, loosely}
use Rattle.smv_printing.proofs.Respelled.{respelled}
use Rattle.smv_printing.proofs.Fits.{Fits, free_part}
use Rattle.smv_printing.proofs.GivenParts.{level_gives, gave, not_clean}
use Rattle.smv_printing.proofs.ClaimsGiven.{claim_depth, placed_most, claim_gave}
use Rattle.smv_printing.proofs.ClaimsRespelled.{formula_again as said_again}
use Rattle.smv_printing.proofs.PartedInks.{claim_scanned, printed_scanned, text_scannable}

by_expression : (bytes : List ℕ) (x : Expression) → SpellsBy expr bytes x → Reparsed x.tree
by_expression bytes x s =
    let P : ℕ → Expression → Type 0 = λ j y. (j ≡ 0) × Fits false 15 y in
    let a = text_scannable bytes s.tokens s.scanned in
    let g = gave s.spelled false 0 P a (not_clean s.tokens) (level_gives 15 false 0 P (λ x f. (refl, f))) in
    let f = g.holds.1 in
    let d = free_part false 15 x f in
    let small = f.within in
    let back = printed_scanned x.tree f.well in
    let y = (loosely x.tree (respelled x.tree f.well) deepest (omega (arith, d, small)) (omega (arith, d, small))).along back.tokens [] (lays (bare x.tree lead.Free) back.tokens back.laid) refl (text_scannable (printed x.tree) back.tokens back.scanned) in
    let w : SpellsBy expr (printed x.tree) y.given = record { tokens = back.tokens; scanned = back.scanned; spelled = y.follows } in
    record { tree = y.given.tree; spelled = record { given = y.given; spelled = w; is = refl }; alike = y.holds.alike }

by_formula : (bytes : List ℕ) (x : Formula) → SpellsBy formula bytes x → ReparsedFormula x.claim
by_formula bytes x s =
    let a = text_scannable bytes s.tokens s.scanned in
    let g = claim_gave deepest s.tokens [] x s.spelled a in
    let f = g.fits in
    let e = f.shallow in
    let small = f.within in
    let d = (placed_most 6 x.claim (claim_depth x.claim)).1 in
    let back = claim_scanned x.claim f.well in
    let y = (said_again x.claim f.well f.brackets (omega (arith, d, e, small))).along back.tokens [] (lays (claim_inks x.claim) back.tokens back.laid) refl (text_scannable (claim_printed x.claim) back.tokens back.scanned) in
    let w : SpellsBy formula (claim_printed x.claim) y.given = record { tokens = back.tokens; scanned = back.scanned; spelled = y.follows } in
    record { claim = y.given.claim; spelled = record { given = y.given; spelled = w; is = refl }; alike = y.holds.alike }

pub expression_reparsed : (bytes : List ℕ) (x : Tree) → SpellsExpr bytes x → Reparsed x
expression_reparsed bytes x s = subst Reparsed s.is (by_expression bytes s.given s.spelled)

pub formula_reparsed : (bytes : List ℕ) (c : Claim) → SpellsFormulaText bytes c → ReparsedFormula c
formula_reparsed bytes c s = subst ReparsedFormula s.is (by_formula bytes s.given s.spelled)
