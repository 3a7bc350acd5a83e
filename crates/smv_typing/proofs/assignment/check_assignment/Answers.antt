use Rattle.smv_tree.specs.Trees.{expr_tree}
use Rattle.smv_kinds.specs.Nodes.{assignment_fault}
use Rattle.smv_typing.specs.Judging.{judged}
use Rattle.smv_typing.specs.Uses.{used, assignment_scope, target_faults, assignment_faults}
use Rattle.smv_typing.proofs.Firsts.{two_first}
use Rattle.smv_typing.proofs.assignment.check_assignment.Goals as goal

pub returns : goal.returns
unfolding assignment_faults
returns g c =
    let told = g.N.Names.told c.args.names.now in
    let right = judged told (assignment_scope c.args.moment) (expr_tree c.args.e.now) in
    two_first (used c.args.place (assignment_fault c.args.target.sort) right) (target_faults c.args.target c.args.moment c.args.place c.args.name.now) c.in_ok-right.ensures c.in_ok-target.ensures c.earlier.ensures
