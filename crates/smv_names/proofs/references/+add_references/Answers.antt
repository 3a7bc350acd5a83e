use Rattle.smv_names.proofs.Rows.{expression_on, branch_on}
use Rattle.smv_names.proofs.references.+add_references.Goals as goal

pub with_all-loop-e-preserved : goal.with_all-loop-e-preserved
with_all-loop-e-preserved g t c =
    expression_on (g.L.Lookup.found c.args.lookup.now) c.args.row.items c.loop-e.row.items c.in_ok-row.row.items c.args.es.now c.loop-e.e-index c.e-item.result c.loop-e-test.true c.e-item.is c.loop-e.invariant c.in_ok-row.ensures

pub with_branches-loop-branch-preserved : goal.with_branches-loop-branch-preserved
with_branches-loop-branch-preserved g t c =
    branch_on (g.L.Lookup.found c.args.lookup.now) c.args.row.items c.loop-branch.row.items c.in_ok-row.row.items c.args.branches.now c.loop-branch.branch-index c.branch-item.result c.loop-branch-test.true c.branch-item.is c.loop-branch.invariant c.in_ok-row.ensures
