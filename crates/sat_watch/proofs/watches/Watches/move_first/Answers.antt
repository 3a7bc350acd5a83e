use Rattle.std.proofs.Common.{get_or, set, ap, sym, ◌∙◌, arith}
use Rattle.std.specs.Prelude.{None}
use Rattle.std.proofs.lemmas.List.{get_or_default, length-set}
use Rattle.sat_log.specs.Packing.{packed}
use Rattle.sat_watch.specs.Threads.{no_record, link, exchanged}
use Rattle.sat_watch.proofs.Leaving.{movable, moved_first}
use Rattle.sat_watch.proofs.watches.Watches.move_first.Goals as goal

pub index-requires : goal.index-requires
index-requires c =
    let s = c.self.inside in
    let now = c.args.self.now in
    let m = movable s.heads.items s.records.items now c.args.literal c.args.to None c.args.clause c.self.invariant c.self.view_is c.requires.place c.requires.to c.requires.stands c.requires.apart c.requires.other in
    omega (arith, m.below, s.records.ok.0)

pub index_mut-requires : goal.index_mut-requires
index_mut-requires c =
    let s = c.self.inside in
    let now = c.args.self.now in
    let m = movable s.heads.items s.records.items now c.args.literal c.args.to None c.args.clause c.self.invariant c.self.view_is c.requires.place c.requires.to c.requires.stands c.requires.apart c.requires.other in
    omega (arith, m.here, c.index-2.ensures.value, s.heads.ok.0)

pub index-requires-4 : goal.index-requires-4
index-requires-4 c =
    let s = c.self.inside in
    let now = c.args.self.now in
    let m = movable s.heads.items s.records.items now c.args.literal c.args.to None c.args.clause c.self.invariant c.self.view_is c.requires.place c.requires.to c.requires.stands c.requires.apart c.requires.other in
    omega (arith, m.there, c.index-3.ensures.value, s.heads.ok.0)

pub index_mut-requires-2 : goal.index_mut-requires-2
index_mut-requires-2 c =
    let s = c.self.inside in
    let now = c.args.self.now in
    let m = movable s.heads.items s.records.items now c.args.literal c.args.to None c.args.clause c.self.invariant c.self.view_is c.requires.place c.requires.to c.requires.stands c.requires.apart c.requires.other in
    omega (arith, m.below, s.records.ok.0)

pub index_mut-requires-3 : goal.index_mut-requires-3
index_mut-requires-3 c =
    let s = c.self.inside in
    let now = c.args.self.now in
    let m = movable s.heads.items s.records.items now c.args.literal c.args.to None c.args.clause c.self.invariant c.self.view_is c.requires.place c.requires.to c.requires.stands c.requires.apart c.requires.other in
    omega (arith, m.there, c.index-5.ensures.value, s.heads.ok.0)

pub invariant_of-self : goal.invariant_of-self
invariant_of-self c =
    let s = c.self.inside in
    let now = c.args.self.now in
    let m = movable s.heads.items s.records.items now c.args.literal c.args.to None c.args.clause c.self.invariant c.self.view_is c.requires.place c.requires.to c.requires.stands c.requires.apart c.requires.other in
    let heads = set s.heads.items c.index-2.result c.next-next.result in
    let size = length-set s.heads.items c.index-2.result c.next-next.result in
    let below = m.below in
    let to_below = m.there in
    (moved_first s.heads.items s.records.items now c.args.literal c.args.to c.args.clause c.self.invariant c.self.view_is
    c.index-2.result c.index-5.result c.next-next.result c.index-4.result.now c.exchange.new.self m c.index-2.ensures.value c.index-5.ensures.value
    (c.next-next.ensures ∙ ap (link (packed c.args.literal)) (c.index.ensures ∙ get_or_default s.records.items c.args.clause c.index.result.now no_record below))
    (c.index-4.ensures ∙ get_or_default heads c.index-3.result c.index-4.result.now None (omega (arith, size, to_below, c.index-3.ensures.value)) ∙ ap (λ p. get_or heads p None) (c.index-3.ensures.value ∙ sym c.index-5.ensures.value))
    (c.exchange.ensures ∙ ap (exchanged (packed c.args.literal) (record { literal = c.args.to; next = c.index-4.result.now })) (c.index_mut-2.ensures.value ∙ get_or_default s.records.items c.args.clause c.index_mut-2.result.now no_record below))).0

pub returns-clause-lists : goal.returns-clause-lists
returns-clause-lists c =
    let s = c.self.inside in
    let now = c.args.self.now in
    let m = movable s.heads.items s.records.items now c.args.literal c.args.to None c.args.clause c.self.invariant c.self.view_is c.requires.place c.requires.to c.requires.stands c.requires.apart c.requires.other in
    let heads = set s.heads.items c.index-2.result c.next-next.result in
    let size = length-set s.heads.items c.index-2.result c.next-next.result in
    let below = m.below in
    let to_below = m.there in
    (moved_first s.heads.items s.records.items now c.args.literal c.args.to c.args.clause c.self.invariant c.self.view_is
    c.index-2.result c.index-5.result c.next-next.result c.index-4.result.now c.exchange.new.self m c.index-2.ensures.value c.index-5.ensures.value
    (c.next-next.ensures ∙ ap (link (packed c.args.literal)) (c.index.ensures ∙ get_or_default s.records.items c.args.clause c.index.result.now no_record below))
    (c.index-4.ensures ∙ get_or_default heads c.index-3.result c.index-4.result.now None (omega (arith, size, to_below, c.index-3.ensures.value)) ∙ ap (λ p. get_or heads p None) (c.index-3.ensures.value ∙ sym c.index-5.ensures.value))
    (c.exchange.ensures ∙ ap (exchanged (packed c.args.literal) (record { literal = c.args.to; next = c.index-4.result.now })) (c.index_mut-2.ensures.value ∙ get_or_default s.records.items c.args.clause c.index_mut-2.result.now no_record below))).1

pub returns-clause-pairs : goal.returns-clause-pairs
returns-clause-pairs c =
    let s = c.self.inside in
    let now = c.args.self.now in
    let m = movable s.heads.items s.records.items now c.args.literal c.args.to None c.args.clause c.self.invariant c.self.view_is c.requires.place c.requires.to c.requires.stands c.requires.apart c.requires.other in
    let heads = set s.heads.items c.index-2.result c.next-next.result in
    let size = length-set s.heads.items c.index-2.result c.next-next.result in
    let below = m.below in
    let to_below = m.there in
    (moved_first s.heads.items s.records.items now c.args.literal c.args.to c.args.clause c.self.invariant c.self.view_is
    c.index-2.result c.index-5.result c.next-next.result c.index-4.result.now c.exchange.new.self m c.index-2.ensures.value c.index-5.ensures.value
    (c.next-next.ensures ∙ ap (link (packed c.args.literal)) (c.index.ensures ∙ get_or_default s.records.items c.args.clause c.index.result.now no_record below))
    (c.index-4.ensures ∙ get_or_default heads c.index-3.result c.index-4.result.now None (omega (arith, size, to_below, c.index-3.ensures.value)) ∙ ap (λ p. get_or heads p None) (c.index-3.ensures.value ∙ sym c.index-5.ensures.value))
    (c.exchange.ensures ∙ ap (exchanged (packed c.args.literal) (record { literal = c.args.to; next = c.index-4.result.now })) (c.index_mut-2.ensures.value ∙ get_or_default s.records.items c.args.clause c.index_mut-2.result.now no_record below))).2
