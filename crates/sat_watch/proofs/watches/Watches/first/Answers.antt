use Rattle.std.proofs.Common.{subst, ◌<◌, length, get_or, ap, ◌∙◌, arith}
use Rattle.std.specs.Prelude.{None}
use Rattle.std.proofs.lemmas.List.{get_or_default}
use Rattle.sat_watch.specs.Watched.{IsWatching}
use Rattle.sat_watch.proofs.Moves.{watching, place_of, first_of_list}
use Rattle.sat_watch.proofs.watches.Watches.first.Goals as goal

pub index-requires-2 : goal.index-requires-2
index-requires-2 c =
    let s = c.self.inside in
    let place = place_of s.heads.items s.records.items c.args.self.now c.args.literal c.self.view_is c.requires in
    omega (arith, place, c.index.ensures.value, s.heads.ok.0)

pub returns-clause-value : goal.returns-clause-value
returns-clause-value c =
    let s = c.self.inside in
    let place = place_of s.heads.items s.records.items c.args.self.now c.args.literal c.self.view_is c.requires in
    let inside : c.index.result < length s.heads.items = omega (arith, place, c.index.ensures.value) in
    c.index-2.ensures ∙ get_or_default s.heads.items c.index.result c.index-2.result.now None inside ∙ ap (λ p. get_or s.heads.items p None) c.index.ensures.value
    ∙ first_of_list s.heads.items s.records.items c.args.self.now c.args.literal c.self.invariant c.self.view_is place

pub returns-clause-exact : goal.returns-clause-exact
returns-clause-exact c = subst IsWatching c.self.view_is (watching c.self.inside.heads.items c.self.inside.records.items c.self.invariant)
