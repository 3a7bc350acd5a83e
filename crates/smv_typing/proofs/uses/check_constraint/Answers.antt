use Rattle.std.proofs.Common.{ap, ◌∙◌}
use Rattle.smv_tree.specs.Trees.{expr_tree}
use Rattle.smv_kinds.specs.Nodes.{constraint_fault}
use Rattle.smv_typing.specs.Judging.{judged}
use Rattle.smv_typing.specs.Firsts.{firsts}
use Rattle.smv_typing.specs.Uses.{constraint_scope, constraint_faults}
use Rattle.smv_typing.proofs.Firsts.{used_ok}
use Rattle.smv_typing.proofs.uses.check_constraint.Goals as goal

pub returns-in-Ok : goal.returns-in-Ok
unfolding constraint_faults
returns-in-Ok g c =
    let told = g.N.Names.told c.args.names.now in
    let e = expr_tree c.args.e.now in
    used_ok c.args.place constraint_fault (judged told (constraint_scope c.args.section) e) c.in-Ok.typing (c.in_ok-typing.ensures ∙ ap (λ s. firsts (judged told s e)) c.constraint_scope.ensures) c.in-Ok.is c.constraint_fault.ensures c.listed.ensures
