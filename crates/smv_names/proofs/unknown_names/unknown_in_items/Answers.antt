use Rattle.smv_tree.specs.Models.{part_of}
use Rattle.smv_modules.proofs.Doubles.{first_on}
use Rattle.smv_names.specs.UnknownNames.{is_known_by, is_assignable_by, unknown_in_part}
use Rattle.smv_names.proofs.Unknowns.{none_first}
use Rattle.smv_names.proofs.unknown_names.unknown_in_items.Goals as goal

pub loop-item-init : goal.loop-item-init
loop-item-init c = none_first

pub loop-item-preserved : goal.loop-item-preserved
loop-item-preserved c =
    first_on part_of (unknown_in_part (is_known_by c.args.resolver.now c.args.number) (is_assignable_by c.args.resolver.now c.args.number)) c.args.items.now c.loop-item.item-index c.item-item.result c.loop-item.first c.in_ok-unknown_in_item.field-0 c.earlier-first.result c.loop-item-test.true c.item-item.is
    c.loop-item.invariant c.in_ok-unknown_in_item.ensures c.earlier-first.ensures
