use Rattle.std.proofs.Common.{◌∙◌, ap, ◌+◌, drop, map}
use Rattle.std.specs.Prelude.{Some}
use Rattle.smv_tree.specs.Models.{part_of}
use Rattle.bool_replay.specs.Plain.{names_of}
use Rattle.bool_replay.proofs.PlainLemmas.{name_added, names_from}
use Rattle.bool_replay.proofs.model.declared_names.Goals as goal

pub loop-item-preserved : goal.loop-item-preserved
loop-item-preserved c =
    let added = rw c.if-not-branch.false at c.in_ok-insert.ensures.added in
    let is_new = rw c.if-not-branch.false at c.in_ok-insert.ensures.is_new in
    name_added c.loop-item.names c.insert.new.self c.as_slice.result.now (names_of (map part_of (drop (c.loop-item.item-index + 1) c.args.items.now))) (names_of (map part_of c.args.items.now)) added
    (names_from c.loop-item.names c.args.items.now c.loop-item.item-index c.item-item.result c.as_slice.result.now (names_of (map part_of c.args.items.now)) c.loop-item-test.true c.item-item.is (ap Some c.as_slice.ensures.bytes ∙ c.in-Some.ensures) c.loop-item.invariant.0)
    c.loop-item.invariant.1 is_new
