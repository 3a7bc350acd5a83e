use Rattle.std.proofs.Common.{sym}
use Rattle.smv_tree.specs.Trees.{expr_tree}
use Rattle.smv_modules.proofs.Doubles.{no_fault, first_on}
use Rattle.smv_typing.specs.Uses.{actual_faults}
use Rattle.smv_types.proofs.faults.actuals_fault.Goals as goal

pub loop-actual-init : goal.loop-actual-init
loop-actual-init g c = sym no_fault

pub loop-actual-preserved : goal.loop-actual-preserved
loop-actual-preserved g c =
    first_on expr_tree (actual_faults (g.N.Names.told c.args.names.now)) c.args.actuals.now c.loop-actual.actual-index c.actual-item.result c.loop-actual.first c.in_ok-check_actual.field-0 c.earlier-first.result c.loop-actual-test.true c.actual-item.is
    c.loop-actual.invariant c.in_ok-check_actual.ensures c.earlier-first.ensures
