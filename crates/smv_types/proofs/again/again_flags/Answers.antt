use Rattle.std.proofs.Common.{map, refl, arith, length}
use Rattle.std.proofs.lemmas.Option.{slice_get_read}
use Rattle.smv_tree.specs.Models.{part_of}
use Rattle.smv_meaning.proofs.Lists.{slice_get-map}
use Rattle.smv_types.proofs.Excluding.{walked_on, none_walked, all_walked}
use Rattle.smv_types.proofs.again.again_flags.Goals as goal

pub loop-number-init : goal.loop-number-init
loop-number-init c = none_walked (map part_of c.deref-item-items.result.now) c.new-flags.result.items c.new-excluded.result c.new-flags.ensures.items c.new-excluded.ensures

pub loop-number-preserved : goal.loop-number-preserved
loop-number-preserved c =
    let xs = c.deref-item-items.result.now in
    let i = c.loop-number.number in
    let x = c.item-item.result in
    walked_on (map part_of xs) i (part_of x) (slice_get-map part_of xs i x (slice_get_read xs (length xs) i x refl c.loop-number-test.true c.item-item.is)) c.loop-number.excluded c.loop-number.flags.items c.push.new.self.items c.has.result c.in_ok-excluded.excluded
    c.loop-number.invariant c.has.ensures c.in_ok-push.ensures.items c.in_ok-excluded.ensures

pub returns : goal.returns
returns c k part h =
    let xs = c.deref-item-items.result.now in
    all_walked xs c.args.items.now.items c.loop-number.number c.loop-number.flags.items c.loop-number.excluded c.deref-item-items.ensures.value (omega arith) c.loop-number.invariant k part h
