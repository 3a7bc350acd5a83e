use Rattle.std.proofs.Common.{sym}
use Rattle.smv_tree.specs.Models.{body_of}
use Rattle.smv_modules.specs.Declarations.{doubled_in}
use Rattle.smv_modules.proofs.Doubles.{no_fault, first_on}
use Rattle.smv_modules.proofs.names.doubled_within.Goals as goal

pub loop-one-init : goal.loop-one-init
loop-one-init c = sym no_fault

pub loop-one-preserved : goal.loop-one-preserved
loop-one-preserved c =
    first_on body_of doubled_in c.deref-one-items.result.now c.loop-one.one-index c.one-item.result c.loop-one.first c.in_ok-doubled_in.field-0 c.earlier-first.result c.loop-one-test.true c.one-item.is
    c.loop-one.invariant c.in_ok-doubled_in.ensures c.earlier-first.ensures
