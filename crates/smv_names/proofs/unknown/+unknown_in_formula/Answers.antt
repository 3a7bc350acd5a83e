use Rattle.std.proofs.Common.{rules, ◌≡◌, ap, sym, ◌∙◌}
use Rattle.smv_tree.specs.Models.{formula_claim, both}
use Rattle.smv_tree.specs.declared.formula.Formula.TheFolds.{the_lemmas}
use Rattle.type_fault.specs.First.{earliest}
use Rattle.smv_names.specs.Unknown.{unknown_in_claim}
use Rattle.smv_names.proofs.Unknowns.{first_both, of_part}
use Rattle.smv_names.proofs.unknown.+unknown_in_formula.Goals as goal

pub returns-in_ok-right-in-Two : goal.returns-in_ok-right-in-Two
returns-in_ok-right-in-Two g t c =
    let known = g.K.Known.known c.args.known.now in
    let x = unknown_in_claim known (formula_claim c.in-Two.left.value) in
    let y = unknown_in_claim known (formula_claim c.in-Two.right.value) in
    let left = of_part formula_claim (unknown_in_claim known) c.deref-in-Two.ensures c.in_ok-left-in-Two.ensures in
    let right = of_part formula_claim (unknown_in_claim known) c.deref-in-Two-2.ensures c.in_ok-right-in-Two.ensures in
    let parts = first_both x y c.in_ok-left-in-Two.left c.in_ok-right-in-Two.right c.earlier.result left right c.earlier.ensures in
    let whole : formula_claim c.args.f.now ≡ both c.in-Two.field-0 (formula_claim c.in-Two.left.value) (formula_claim c.in-Two.right.value) = search (rules, the_lemmas) in
    parts ∙ sym (ap (λ w. earliest (unknown_in_claim known w)) whole)
