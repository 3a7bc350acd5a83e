use Rattle.std.proofs.Common.{sym}
use Rattle.smv_modules.proofs.Doubles.{no_fault}
use Rattle.smv_types.proofs.PartFaults.{items_on}
use Rattle.smv_types.proofs.faults.items_fault.Goals as goal

pub loop-number-init : goal.loop-number-init
loop-number-init g c = sym no_fault

pub loop-number-preserved : goal.loop-number-preserved
loop-number-preserved g c =
    items_on (g.N.Names.told c.args.names.now) (g.N.Variables.variables c.args.names.now) c.args.items.now c.args.again.now c.loop-number.number c.index-items-number.result c.is_again.result c.loop-number.first c.in_ok-fault.fault c.earlier-first.result
    c.requires c.loop-number-test.true c.index-items-number.is c.loop-number.invariant c.is_again.ensures c.in_ok-fault.ensures c.earlier-first.ensures
