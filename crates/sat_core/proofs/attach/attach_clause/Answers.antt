use Rattle.std.proofs.Common.{◌≡◌, length, sym, subst}
use Rattle.std.proofs.lemmas.Bool.{eqb-true}
use Rattle.std.specs.Prelude.{Some}
use Rattle.sat_log.specs.Accepted.{clause_at}
use Rattle.sat_trail.proofs.Logs.{named_distinct, named_up_to}
use Rattle.sat_propagation.specs.Watching.{IsReady}
use Rattle.sat_core.specs.Attached.{WatchesTwo}
use Rattle.sat_core.proofs.Attaching.{all_places, none_watched, two_ready, two_keeps_watched}
use Rattle.sat_core.proofs.attach.attach_clause.Goals as goal

pub watch_two-requires-clause-distinct : goal.watch_two-requires-clause-distinct
watch_two-requires-clause-distinct c =
    named_distinct c.args.log.now c.args.id c.in-Some.clause.now c.requires.log (sym c.in-Some.ensures)

pub watch_two-requires-clause-places : goal.watch_two-requires-clause-places
watch_two-requires-clause-places c =
    let n = c.args.trail.now.variables in
    all_places n c.args.propagation.now.watched c.in-Some.clause.now (named_up_to n c.args.log.now c.args.id c.in-Some.clause.now c.requires.exist (sym c.in-Some.ensures)) c.requires.ready.lists

pub assert_unit-requires-clause-exist : goal.assert_unit-requires-clause-exist
assert_unit-requires-clause-exist c =
    named_up_to c.args.trail.now.variables c.args.log.now c.args.id c.in-Some.clause.now c.requires.exist (sym c.in-Some.ensures)

pub returns-in-Some-2-clause-watched : goal.returns-in-Some-2-clause-watched
returns-in-Some-2-clause-watched c =
    let old = c.args.propagation.now in
    let lits = c.in-Some.clause.now in
    let watches = subst (WatchesTwo old c.watch_two.new.propagation lits) c.in-Some-2.is c.in_ok-watcher.ensures.ok in
    two_keeps_watched c.args.log.now c.args.trail.now old c.watch_two.new.propagation c.look_again.new.propagation c.serve.new.self lits c.in-Some-2.watcher c.args.id _ watches c.index-clause-0.result c.index-clause-1.result (c.index-clause-0.is, c.index-clause-1.is) c.look_again.ensures c.serve.ensures

pub returns-in-Some-2-clause-ready : goal.returns-in-Some-2-clause-ready
returns-in-Some-2-clause-ready c =
    let old = c.args.propagation.now in
    let lits = c.in-Some.clause.now in
    let log = c.args.log.now in
    let named : clause_at log c.args.id ≡ Some lits = sym c.in-Some.ensures in
    let watches = subst (WatchesTwo old c.watch_two.new.propagation lits) c.in-Some-2.is c.in_ok-watcher.ensures.ok in
    two_ready log c.args.trail.now old c.watch_two.new.propagation c.look_again.new.propagation c.serve.new.self lits c.in-Some-2.watcher c.args.id _ watches c.index-clause-0.result c.index-clause-1.result (c.index-clause-0.is, c.index-clause-1.is) c.look_again.ensures c.serve.ensures c.requires.level named (named_distinct log c.args.id lits c.requires.log named) (eqb-true (length lits) 2) c.requires.ready

pub returns-in-None-2-clause-ready : goal.returns-in-None-2-clause-ready
returns-in-None-2-clause-ready c =
    let old = c.args.propagation.now in
    let watches = subst (WatchesTwo old c.watch_two.new.propagation c.in-Some.clause.now) c.in-None-2.is c.in_ok-watcher.ensures.ok in
    subst (IsReady c.args.log.now c.assert_unit.new.trail) (sym (none_watched old c.watch_two.new.propagation c.in-Some.clause.now watches).1) (c.assert_unit.ensures.ready c.args.log.now old c.requires.ready)
