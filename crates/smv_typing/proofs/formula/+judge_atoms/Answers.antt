use Rattle.std.proofs.Common.{rules, ◌≡◌, sym, subst}
use Rattle.std.specs.Prelude.{Option}
use Rattle.type_fault.specs.declared.fault.TypeFault.{TypeFault}
use Rattle.smv_tree.specs.Models.{Claim, both, formula_claim}
use Rattle.smv_tree.specs.declared.formula.Formula.{Formula}
use Rattle.smv_tree.specs.declared.formula.Formula.TheFolds.{the_lemmas}
use Rattle.smv_typing.specs.Formulas.{atoms}
use Rattle.smv_typing.specs.Found.{Finds}
use Rattle.smv_typing.proofs.Atoms.{finds_both}
use Rattle.smv_typing.proofs.formula.+judge_atoms.Goals as goal

pub returns-in_ok-later-in-Two : goal.returns-in_ok-later-in-Two
unfolding atoms
returns-in_ok-later-in-Two g t c =
    let told = g.N.Names.told c.args.names.now in
    let p = c.args.section in
    let x = formula_claim c.in-Two.left.value in
    let y = formula_claim c.in-Two.right.value in
    let left : Option TypeFault × Option TypeFault = (c.in_ok-own-in-Two.own, c.in_ok-own-in-Two.within) in
    let right : Option TypeFault × Option TypeFault = (c.in_ok-later-in-Two.later, c.in_ok-later-in-Two.deeper) in
    let h = subst (λ (f : Formula). Finds told p (atoms (formula_claim f)) left) c.deref-in-Two.ensures c.in_ok-own-in-Two.ensures in
    let i = subst (λ (f : Formula). Finds told p (atoms (formula_claim f)) right) c.deref-in-Two-2.ensures c.in_ok-later-in-Two.ensures in
    let whole : formula_claim c.args.f.now ≡ both c.in-Two.field-0 x y = search (rules, the_lemmas) in
    subst (λ (f : Claim). Finds told p (atoms f) (c.first_there.result, c.earlier.result)) (sym whole) (finds_both told p (atoms x) (atoms y) left right h i c.first_there.ensures c.earlier.ensures)
