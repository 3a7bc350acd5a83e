use Rattle.std.proofs.Common.{get_or, set, ap, sym, ◌∙◌, arith}
use Rattle.std.specs.Prelude.{None, Some}
use Rattle.std.proofs.lemmas.List.{get_or_default, length-set}
use Rattle.sat_log.specs.Packing.{packed}
use Rattle.sat_watch.specs.Threads.{no_record, link, exchanged, relinked}
use Rattle.sat_watch.proofs.Leaving.{movable, moved_behind, behind_one}
use Rattle.sat_watch.proofs.watches.Watches.move_behind.Goals as goal

pub index-requires : goal.index-requires
index-requires c =
    let s = c.self.inside in
    let now = c.args.self.now in
    let m = movable s.heads.items s.records.items now c.args.literal c.args.to (Some c.args.before) c.args.clause c.self.invariant c.self.view_is c.requires.place c.requires.to c.requires.stands c.requires.apart c.requires.other in
    omega (arith, m.below, s.records.ok.0)

pub index_mut-requires : goal.index_mut-requires
index_mut-requires c =
    let s = c.self.inside in
    let now = c.args.self.now in
    let m = movable s.heads.items s.records.items now c.args.literal c.args.to (Some c.args.before) c.args.clause c.self.invariant c.self.view_is c.requires.place c.requires.to c.requires.stands c.requires.apart c.requires.other in
    let one = behind_one s.heads.items s.records.items now c.args.literal c.args.to c.args.clause c.self.invariant c.self.view_is c.args.before m in
    omega (arith, one.0, s.records.ok.0)

pub index-requires-3 : goal.index-requires-3
index-requires-3 c =
    let s = c.self.inside in
    let now = c.args.self.now in
    let m = movable s.heads.items s.records.items now c.args.literal c.args.to (Some c.args.before) c.args.clause c.self.invariant c.self.view_is c.requires.place c.requires.to c.requires.stands c.requires.apart c.requires.other in
    omega (arith, m.there, c.index-2.ensures.value, s.heads.ok.0)

pub index_mut-requires-2 : goal.index_mut-requires-2
index_mut-requires-2 c =
    let s = c.self.inside in
    let now = c.args.self.now in
    let m = movable s.heads.items s.records.items now c.args.literal c.args.to (Some c.args.before) c.args.clause c.self.invariant c.self.view_is c.requires.place c.requires.to c.requires.stands c.requires.apart c.requires.other in
    omega (arith, m.below, s.records.ok.0)

pub index_mut-requires-3 : goal.index_mut-requires-3
index_mut-requires-3 c =
    let s = c.self.inside in
    let now = c.args.self.now in
    let m = movable s.heads.items s.records.items now c.args.literal c.args.to (Some c.args.before) c.args.clause c.self.invariant c.self.view_is c.requires.place c.requires.to c.requires.stands c.requires.apart c.requires.other in
    omega (arith, m.there, c.index-4.ensures.value, s.heads.ok.0)

pub invariant_of-self : goal.invariant_of-self
invariant_of-self c =
    let s = c.self.inside in
    let now = c.args.self.now in
    let m = movable s.heads.items s.records.items now c.args.literal c.args.to (Some c.args.before) c.args.clause c.self.invariant c.self.view_is c.requires.place c.requires.to c.requires.stands c.requires.apart c.requires.other in
    let one = behind_one s.heads.items s.records.items now c.args.literal c.args.to c.args.clause c.self.invariant c.self.view_is c.args.before m in
    let records = set s.records.items c.args.before c.relink.new.self in
    let size = length-set s.records.items c.args.before c.relink.new.self in
    let below = m.below in
    let to_below = m.there in
    (moved_behind s.heads.items s.records.items now c.args.literal c.args.to c.args.clause c.self.invariant c.self.view_is
    c.args.before c.index-4.result c.next-next.result c.index-3.result.now c.relink.new.self c.exchange.new.self m c.index-4.ensures.value
    (c.next-next.ensures ∙ ap (link (packed c.args.literal)) (c.index.ensures ∙ get_or_default s.records.items c.args.clause c.index.result.now no_record below))
    (c.relink.ensures ∙ ap (relinked (packed c.args.literal) c.next-next.result) (c.index_mut.ensures.value ∙ get_or_default s.records.items c.args.before c.index_mut.result.now no_record one.0))
    (c.index-3.ensures ∙ get_or_default s.heads.items c.index-2.result c.index-3.result.now None (omega (arith, to_below, c.index-2.ensures.value)) ∙ ap (λ p. get_or s.heads.items p None) (c.index-2.ensures.value ∙ sym c.index-4.ensures.value))
    (c.exchange.ensures ∙ ap (exchanged (packed c.args.literal) (record { literal = c.args.to; next = c.index-3.result.now })) (c.index_mut-2.ensures.value ∙ get_or_default records c.args.clause c.index_mut-2.result.now no_record (omega (arith, size, below))))).0

pub returns-clause-lists : goal.returns-clause-lists
returns-clause-lists c =
    let s = c.self.inside in
    let now = c.args.self.now in
    let m = movable s.heads.items s.records.items now c.args.literal c.args.to (Some c.args.before) c.args.clause c.self.invariant c.self.view_is c.requires.place c.requires.to c.requires.stands c.requires.apart c.requires.other in
    let one = behind_one s.heads.items s.records.items now c.args.literal c.args.to c.args.clause c.self.invariant c.self.view_is c.args.before m in
    let records = set s.records.items c.args.before c.relink.new.self in
    let size = length-set s.records.items c.args.before c.relink.new.self in
    let below = m.below in
    let to_below = m.there in
    (moved_behind s.heads.items s.records.items now c.args.literal c.args.to c.args.clause c.self.invariant c.self.view_is
    c.args.before c.index-4.result c.next-next.result c.index-3.result.now c.relink.new.self c.exchange.new.self m c.index-4.ensures.value
    (c.next-next.ensures ∙ ap (link (packed c.args.literal)) (c.index.ensures ∙ get_or_default s.records.items c.args.clause c.index.result.now no_record below))
    (c.relink.ensures ∙ ap (relinked (packed c.args.literal) c.next-next.result) (c.index_mut.ensures.value ∙ get_or_default s.records.items c.args.before c.index_mut.result.now no_record one.0))
    (c.index-3.ensures ∙ get_or_default s.heads.items c.index-2.result c.index-3.result.now None (omega (arith, to_below, c.index-2.ensures.value)) ∙ ap (λ p. get_or s.heads.items p None) (c.index-2.ensures.value ∙ sym c.index-4.ensures.value))
    (c.exchange.ensures ∙ ap (exchanged (packed c.args.literal) (record { literal = c.args.to; next = c.index-3.result.now })) (c.index_mut-2.ensures.value ∙ get_or_default records c.args.clause c.index_mut-2.result.now no_record (omega (arith, size, below))))).1

pub returns-clause-pairs : goal.returns-clause-pairs
returns-clause-pairs c =
    let s = c.self.inside in
    let now = c.args.self.now in
    let m = movable s.heads.items s.records.items now c.args.literal c.args.to (Some c.args.before) c.args.clause c.self.invariant c.self.view_is c.requires.place c.requires.to c.requires.stands c.requires.apart c.requires.other in
    let one = behind_one s.heads.items s.records.items now c.args.literal c.args.to c.args.clause c.self.invariant c.self.view_is c.args.before m in
    let records = set s.records.items c.args.before c.relink.new.self in
    let size = length-set s.records.items c.args.before c.relink.new.self in
    let below = m.below in
    let to_below = m.there in
    (moved_behind s.heads.items s.records.items now c.args.literal c.args.to c.args.clause c.self.invariant c.self.view_is
    c.args.before c.index-4.result c.next-next.result c.index-3.result.now c.relink.new.self c.exchange.new.self m c.index-4.ensures.value
    (c.next-next.ensures ∙ ap (link (packed c.args.literal)) (c.index.ensures ∙ get_or_default s.records.items c.args.clause c.index.result.now no_record below))
    (c.relink.ensures ∙ ap (relinked (packed c.args.literal) c.next-next.result) (c.index_mut.ensures.value ∙ get_or_default s.records.items c.args.before c.index_mut.result.now no_record one.0))
    (c.index-3.ensures ∙ get_or_default s.heads.items c.index-2.result c.index-3.result.now None (omega (arith, to_below, c.index-2.ensures.value)) ∙ ap (λ p. get_or s.heads.items p None) (c.index-2.ensures.value ∙ sym c.index-4.ensures.value))
    (c.exchange.ensures ∙ ap (exchanged (packed c.args.literal) (record { literal = c.args.to; next = c.index-3.result.now })) (c.index_mut-2.ensures.value ∙ get_or_default records c.args.clause c.index_mut-2.result.now no_record (omega (arith, size, below))))).2
