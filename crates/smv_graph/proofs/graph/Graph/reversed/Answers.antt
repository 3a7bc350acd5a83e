use Rattle.std.proofs.Common.{map, subst, arith}
use Rattle.std.specs.Prelude.{Contains, Some}
use Rattle.std.proofs.lemmas.List.{length-map}
use Rattle.smv_graph.specs.Graph.{IsClosed}
use Rattle.smv_graph.specs.Arrows.{AreAdded, IsBack}
use Rattle.smv_graph.proofs.Arrows.{none_reversed, one_reversed, all_reversed, reversed_closed, targets_within}
use Rattle.smv_graph.proofs.graph.Graph.reversed.Goals as goal

pub add_back-requires : goal.add_back-requires
add_back-requires c a h =
    let graph = c.args.self.now in
    let rows = map (λ r. r.items) c.loop-number.rows.items in
    let closed : IsClosed graph = subst IsClosed c.self.view_is c.self.invariant in
    let within = targets_within graph rows c.loop-number.number c.loop-number.invariant closed a (subst (λ r. Contains r (Some a)) c.row.ensures h) in
    let size = length-map c.loop-number.rows.items (λ r. r.items) in
    omega (arith, within, size)

pub loop-number-init : goal.loop-number-init
loop-number-init c = none_reversed c.args.self.now (map (λ r. r.items) c.in_ok-rows.rows.items) c.len.result c.len.ensures c.in_ok-rows.ensures

pub loop-number-preserved : goal.loop-number-preserved
loop-number-preserved c =
    let graph = c.args.self.now in
    let n = c.loop-number.number in
    let rows = map (λ r. r.items) c.loop-number.rows.items in
    let new = map (λ r. r.items) c.add_back.new.rows.items in
    one_reversed graph rows n c.loop-number.invariant new (subst (λ r. AreAdded rows (IsBack r n) new) c.row.ensures c.in_ok-add_back.ensures)

pub returns : goal.returns
returns c =
    all_reversed c.args.self.now (map (λ r. r.items) c.loop-number.rows.items) c.loop-number.number c.loop-number.invariant (omega (arith, c.len-number-end.ensures, c.loop-number-test.false))

pub invariant_of-result : goal.invariant_of-result
invariant_of-result c =
    reversed_closed c.args.self.now (map (λ r. r.items) c.loop-number.rows.items) c.loop-number.number c.loop-number.invariant
