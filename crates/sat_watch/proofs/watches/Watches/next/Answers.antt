use Rattle.std.proofs.Common.{subst, ap, ◌∙◌, arith}
use Rattle.std.proofs.lemmas.List.{get_or_default}
use Rattle.sat_log.specs.Packing.{packed}
use Rattle.sat_watch.specs.Threads.{link, no_record}
use Rattle.sat_watch.specs.Watched.{IsWatching}
use Rattle.sat_watch.proofs.Moves.{watching, place_of, next_of_list}
use Rattle.sat_watch.proofs.watches.Watches.next.Goals as goal

pub index-requires : goal.index-requires
index-requires c =
    let s = c.self.inside in
    let place = place_of s.heads.items s.records.items c.args.self.now c.args.literal c.self.view_is c.requires.place in
    let at = next_of_list s.heads.items s.records.items c.args.self.now c.args.literal c.args.clause c.self.invariant c.self.view_is place c.requires.watches in
    omega (arith, at.0, s.records.ok.0)

pub returns-clause-value : goal.returns-clause-value
returns-clause-value c =
    let s = c.self.inside in
    let place = place_of s.heads.items s.records.items c.args.self.now c.args.literal c.self.view_is c.requires.place in
    let at = next_of_list s.heads.items s.records.items c.args.self.now c.args.literal c.args.clause c.self.invariant c.self.view_is place c.requires.watches in
    c.next.ensures ∙ ap (link (packed c.args.literal)) (c.index.ensures ∙ get_or_default s.records.items c.args.clause c.index.result.now no_record at.0) ∙ at.1

pub returns-clause-exact : goal.returns-clause-exact
returns-clause-exact c = subst IsWatching c.self.view_is (watching c.self.inside.heads.items c.self.inside.records.items c.self.invariant)
