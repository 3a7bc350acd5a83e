use Rattle.std.proofs.Common.{ap, ◌∙◌}
use Rattle.smv_tree.specs.Trees.{expr_tree}
use Rattle.smv_kinds.specs.Nodes.{assignment_fault}
use Rattle.smv_typing.specs.Judging.{judged}
use Rattle.smv_typing.specs.Firsts.{firsts}
use Rattle.smv_typing.specs.Uses.{assignment_scope}
use Rattle.smv_typing.proofs.Firsts.{used_ok}
use Rattle.smv_typing.proofs.assignment.right_fault.Goals as goal

pub returns-in-Ok : goal.returns-in-Ok
returns-in-Ok g c =
    let told = g.N.Names.told c.args.names.now in
    let e = expr_tree c.args.e.now in
    used_ok c.args.place (assignment_fault c.args.sort) (judged told (assignment_scope c.args.moment) e) c.in-Ok.typing (c.in_ok-typing.ensures ∙ ap (λ s. firsts (judged told s e)) c.assignment_scope.ensures) c.in-Ok.is c.assignment_fault.ensures c.listed.ensures
