use Rattle.std.proofs.Common.{ap, ◌∙◌}
use Rattle.smv_tree.specs.Trees.{expr_tree}
use Rattle.type_fault.specs.First.{earliest}
use Rattle.smv_typing.specs.Uses.{of_definition, listed, place_in, actual_fault, actual_faults}
use Rattle.smv_typing.specs.Judging.{judged}
use Rattle.smv_typing.proofs.Firsts.{used_ok}
use Rattle.smv_typing.proofs.uses.check_actual.Goals as goal

pub returns-in-Ok : goal.returns-in-Ok
unfolding actual_faults
returns-in-Ok g c =
    let told = g.N.Names.told c.args.names.now in
    let e = expr_tree c.args.e.now in
    used_ok (place_in e) (actual_fault e) (judged told of_definition e) c.in-Ok.typing c.in_ok-typing.ensures c.in-Ok.is c.actual_fault.ensures (c.listed.ensures ∙ ap (λ p. earliest (listed p c.actual_fault.result)) c.place_in.ensures)
