use Rattle.std.proofs.Common.{ap, ◌∙◌}
use Rattle.smv_tree.specs.Trees.{expr_tree}
use Rattle.type_fault.specs.First.{earliest}
use Rattle.smv_typing.specs.Uses.{listed}
use Rattle.smv_typing.specs.Formulas.{atom_place}
use Rattle.smv_typing.proofs.Atoms.{finds_ok, finds_err}
use Rattle.smv_typing.proofs.formula.judge_atom.Goals as goal

pub returns-in-Ok : goal.returns-in-Ok
returns-in-Ok g c =
    let told = g.N.Names.told c.args.names.now in
    let e = expr_tree c.args.e.now in
    finds_ok told c.args.section e c.in-Ok.typing c.in_ok-typing.ensures c.in-Ok.is (c.listed.ensures ∙ (ap (λ p. earliest (listed p c.constraint_fault.result)) c.atom_place.ensures ∙ ap (λ f. earliest (listed (atom_place c.args.section e) f)) c.constraint_fault.ensures))

pub returns-in-Err : goal.returns-in-Err
returns-in-Err g c =
    let told = g.N.Names.told c.args.names.now in
    finds_err told c.args.section (expr_tree c.args.e.now) c.in_ok-typing.ensures c.in-Err.is
