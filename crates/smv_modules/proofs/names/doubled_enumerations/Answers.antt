use Rattle.std.proofs.Common.{sym}
use Rattle.smv_tree.specs.Models.{part_of}
use Rattle.smv_modules.specs.Declarations.{doubled, enumeration_declarations}
use Rattle.smv_modules.proofs.Doubles.{no_fault, first_on}
use Rattle.smv_modules.proofs.names.doubled_enumerations.Goals as goal

pub loop-item-init : goal.loop-item-init
loop-item-init c = sym no_fault

pub loop-item-preserved : goal.loop-item-preserved
loop-item-preserved c =
    first_on part_of (λ part. doubled (enumeration_declarations part)) c.deref-item-items.result.now c.loop-item.item-index c.item-item.result c.loop-item.first c.in_ok-doubled_enumeration.field-0 c.earlier-first.result c.loop-item-test.true c.item-item.is
    c.loop-item.invariant c.in_ok-doubled_enumeration.ensures c.earlier-first.ensures
