-- What is written of what a text spells is a text that spells it again, places aside.
use Rattle.std.proofs.Common.{ℕ, List}
use Rattle.std.proofs.lemmas.Result.{on_ok_weaker}
use Rattle.std.specs.Prelude.{OnOk, Result}
use Rattle.outside.specs.declared.Failed.{Failed}
use Rattle.outside.specs.Calls.{Writes}
use Rattle.outside.specs.Told.{Output}
use Rattle.smv_tree.specs.Models.{Claim}
use Rattle.smv_tree.specs.Trees.{Tree}
use Rattle.smv_rules.specs.PartTexts.{SpellsExpr, SpellsFormulaText}
use Rattle.smv_printing.specs.Printing.{claim_printed, printed}
use Rattle.smv_printing.proofs.Reparsed.{expression_reparsed, formula_reparsed}
use Rattle.smv_print.specs.Written.{WroteAlike, WroteAlikeFormula}

pub expression_again : {X : Type 0} (r : Result X Failed) (old new : Output) (x : Tree) → Writes (printed x) old r new → (bytes : List ℕ) → SpellsExpr bytes x → OnOk r (WroteAlike old new x)
expression_again {X} r old new x ok bytes s =
    let a = expression_reparsed bytes x s in
    on_ok_weaker r (λ w. record { text = printed x; written = w; tree = a.tree; spelled = a.spelled; alike = a.alike }) ok.ok

pub formula_again : {X : Type 0} (r : Result X Failed) (old new : Output) (c : Claim) → Writes (claim_printed c) old r new → (bytes : List ℕ) → SpellsFormulaText bytes c → OnOk r (WroteAlikeFormula old new c)
formula_again {X} r old new c ok bytes s =
    let a = formula_reparsed bytes c s in
    on_ok_weaker r (λ w. record { text = claim_printed c; written = w; claim = a.claim; spelled = a.spelled; alike = a.alike }) ok.ok
