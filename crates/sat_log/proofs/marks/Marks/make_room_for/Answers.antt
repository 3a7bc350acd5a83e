use Rattle.std.proofs.Common.{subst}
use Rattle.sat_log.specs.Marked.{HasPlace}
use Rattle.sat_log.proofs.MarkLemmas.{clause_keeps, one_more_has_room}
use Rattle.sat_log.proofs.marks.Marks.make_room_for.Goals as goal

pub loop-literal-preserved : goal.loop-literal-preserved
loop-literal-preserved c =
    let old = c.loop-literal.self in
    let new = c.make_room.new.self in
    let here = subst (HasPlace new.room new.far) c.var.ensures.value c.in_ok-make_room.ensures.ok in
    record {
      so_far = one_more_has_room new c.args.clause.now c.loop-literal.literal-index c.literal-item.result c.loop-literal-test.true c.literal-item.is (clause_keeps old new _ c.make_room.ensures.keeps c.loop-literal.invariant.so_far) here;
      keeps = (λ v h. c.make_room.ensures.keeps v (c.loop-literal.invariant.keeps v h));
      clear = c.make_room.ensures.clear;
    }
