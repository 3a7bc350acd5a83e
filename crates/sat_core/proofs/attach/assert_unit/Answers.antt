use Rattle.std.proofs.Common.{refl, sym, subst, []}
use Rattle.std.proofs.lemmas.Bool.{iff_false}
use Rattle.std.specs.Prelude.{Some}
use Rattle.sat_log.specs.Clause.{Among, IsUnset}
use Rattle.sat_trail.specs.Trail.{literals, top}
use Rattle.sat_trail.specs.Units.{IsTrail, AddsImplied}
use Rattle.sat_trail.specs.declared.trail.Entry.{Entry}
use Rattle.sat_trail.proofs.Growth.{implied_follows, adds_one}
use Rattle.sat_propagation.proofs.Ready.{ready_implied}
use Rattle.sat_core.proofs.Singles.{one_reason}
use Rattle.sat_core.proofs.attach.assert_unit.Goals as goal

pub returns-clause-trail : goal.returns-clause-trail
returns-clause-trail c log named t =
    let old = c.args.trail.now.entries in
    let set = literals old in
    let l = c.index-clause-0.result in
    let free : IsUnset set l = (iff_false c.is_true-2.ensures c.if-is_true-2.false, (λ m. iff_false c.is_true.ensures c.if-is_true.false (subst (Among set) (sym c.negated.ensures) m))) in
    subst (IsTrail log) (sym c.imply.ensures.entries) (implied_follows log old c.args.id l t free (one_reason set c.args.clause.now l c.requires.short c.index-clause-0.is log c.args.id c.if-clause-eq0.false named))

pub returns-clause-ready : goal.returns-clause-ready
returns-clause-ready c log p h =
    let old = c.args.trail.now in
    ready_implied log old c.imply.new.self p (record { literal = c.index-clause-0.result; level = top old.entries; reason = Some c.args.id }) c.imply.ensures.variables c.imply.ensures.entries refl h

pub returns-clause-implied : goal.returns-clause-implied
returns-clause-implied c =
    let old = c.args.trail.now.entries in
    let e : Entry = record { literal = c.index-clause-0.result; level = top old; reason = Some c.args.id } in
    subst (AddsImplied old) (sym c.imply.ensures.entries) (adds_one old old e (record { added = []; same = refl; implied = tt }) refl)
