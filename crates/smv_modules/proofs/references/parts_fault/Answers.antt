use Rattle.std.proofs.Common.{sym}
use Rattle.smv_tree.specs.Models.{bodies, part_of}
use Rattle.smv_modules.specs.References.{part_faults}
use Rattle.smv_modules.proofs.Doubles.{no_fault, first_on}
use Rattle.smv_modules.proofs.references.parts_fault.Goals as goal

pub loop-item-init : goal.loop-item-init
loop-item-init c = sym no_fault

pub loop-item-preserved : goal.loop-item-preserved
loop-item-preserved c =
    first_on part_of (part_faults (bodies c.args.p.now)) c.deref-item-items.result.now c.loop-item.item-index c.item-item.result c.loop-item.first c.in_ok-part_fault.field-0 c.earlier-first.result c.loop-item-test.true c.item-item.is
    c.loop-item.invariant c.in_ok-part_fault.ensures c.earlier-first.ensures
