use Rattle.std.proofs.Common.{length, get_or, ap, ◌∙◌, arith}
use Rattle.std.specs.Prelude.{None}
use Rattle.std.proofs.lemmas.List.{get_or_default}
use Rattle.sat_watch.proofs.Moves.{place_of}
use Rattle.sat_watch.proofs.Adding.{added_all}
use Rattle.sat_watch.proofs.watches.Watches.add.Goals as goal

pub index-requires-2 : goal.index-requires-2
index-requires-2 c =
    let s = c.self.inside in
    omega (arith, place_of s.heads.items s.records.items c.args.self.now c.args.first c.self.view_is c.requires.first, c.index.ensures.value, s.heads.ok.0)

pub index-requires-4 : goal.index-requires-4
index-requires-4 c =
    let s = c.self.inside in
    omega (arith, place_of s.heads.items s.records.items c.args.self.now c.args.second c.self.view_is c.requires.second, c.index-3.ensures.value, s.heads.ok.0)

pub index_mut-requires : goal.index_mut-requires
index_mut-requires c =
    let s = c.self.inside in
    omega (arith, place_of s.heads.items s.records.items c.args.self.now c.args.first c.self.view_is c.requires.first, c.index-5.ensures.value, s.heads.ok.0)

pub index_mut-requires-2 : goal.index_mut-requires-2
index_mut-requires-2 c =
    let s = c.self.inside in
    omega (arith, place_of s.heads.items s.records.items c.args.self.now c.args.second c.self.view_is c.requires.second, c.index-6.ensures.value, s.heads.ok.0)

pub invariant_of-self-2 : goal.invariant_of-self-2
invariant_of-self-2 c =
    let s = c.self.inside in
    let now = c.args.self.now in
    let pa = place_of s.heads.items s.records.items now c.args.first c.self.view_is c.requires.first in
    let pb = place_of s.heads.items s.records.items now c.args.second c.self.view_is c.requires.second in
    (added_all s.heads.items s.records.items now c.args.first c.args.second c.self.invariant c.self.view_is c.requires.first c.requires.second c.requires.apart
    c.index-5.result c.index-6.result c.len-clause.result c.index-2.result.now c.index-4.result.now c.reserve.new.self.items c.push_reserved.new.self.items
    c.index-5.ensures.value c.index-6.ensures.value (omega (arith, c.len-clause.ensures, ap length c.in_ok-reserve.ensures.items, c.reserve.new.self.ok.0))
    (c.index-2.ensures ∙ get_or_default s.heads.items c.index.result c.index-2.result.now None (omega (arith, pa, c.index.ensures.value)) ∙ ap (λ p. get_or s.heads.items p None) c.index.ensures.value)
    (c.index-4.ensures ∙ get_or_default s.heads.items c.index-3.result c.index-4.result.now None (omega (arith, pb, c.index-3.ensures.value)) ∙ ap (λ p. get_or s.heads.items p None) c.index-3.ensures.value)
    c.in_ok-reserve.ensures.items c.push_reserved.ensures.items).0

pub returns-clause-lists : goal.returns-clause-lists
returns-clause-lists c =
    let s = c.self.inside in
    let now = c.args.self.now in
    let pa = place_of s.heads.items s.records.items now c.args.first c.self.view_is c.requires.first in
    let pb = place_of s.heads.items s.records.items now c.args.second c.self.view_is c.requires.second in
    (added_all s.heads.items s.records.items now c.args.first c.args.second c.self.invariant c.self.view_is c.requires.first c.requires.second c.requires.apart
    c.index-5.result c.index-6.result c.len-clause.result c.index-2.result.now c.index-4.result.now c.reserve.new.self.items c.push_reserved.new.self.items
    c.index-5.ensures.value c.index-6.ensures.value (omega (arith, c.len-clause.ensures, ap length c.in_ok-reserve.ensures.items, c.reserve.new.self.ok.0))
    (c.index-2.ensures ∙ get_or_default s.heads.items c.index.result c.index-2.result.now None (omega (arith, pa, c.index.ensures.value)) ∙ ap (λ p. get_or s.heads.items p None) c.index.ensures.value)
    (c.index-4.ensures ∙ get_or_default s.heads.items c.index-3.result c.index-4.result.now None (omega (arith, pb, c.index-3.ensures.value)) ∙ ap (λ p. get_or s.heads.items p None) c.index-3.ensures.value)
    c.in_ok-reserve.ensures.items c.push_reserved.ensures.items).1
