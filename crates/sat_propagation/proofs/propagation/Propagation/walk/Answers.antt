use Rattle.std.proofs.Common.{◌≡◌, ◌<◌, ◌≤◌, length, ap, sym, subst, ◌∙◌, arith}
use Rattle.sat_log.specs.Literal.{negated}
use Rattle.sat_log.specs.Packing.{packed}
use Rattle.sat_watch.specs.Watched.{watchers, AreDistinct}
use Rattle.sat_trail.specs.Trail.{places}
use Rattle.sat_trail.proofs.Tables.{place_within}
use Rattle.sat_trail.proofs.Growth.{adds_twice}
use Rattle.sat_propagation.specs.Watching.{Propagated, KeepsLines}
use Rattle.sat_propagation.proofs.Pairs.{at_list}
use Rattle.sat_propagation.proofs.Rules.{in_grown, lines_same, lines_twice, lines_moved}
use Rattle.sat_propagation.proofs.Walks.{walked_before, walked_all, kept_walks, kept_less, moved_walks, moved_less}
use Rattle.sat_propagation.proofs.propagation.Propagation.walk.Goals as goal
use Rattle.sat_propagation.proofs.propagation.Propagation.walk.Goals.{After-behind}

pub behind-requires-clause-before : goal.behind-requires-clause-before
behind-requires-clause-before c =
    walked_before c.loop-watcher.self c.loop-watcher.trail.entries c.args.literal c.loop-watcher.before c.loop-watcher.invariant.walked

pub visit-requires-clause-false_ : goal.visit-requires-clause-false_
visit-requires-clause-false_ c =
    in_grown c.args.trail.now.entries c.loop-watcher.trail.entries (negated c.args.literal) c.loop-watcher.invariant.implied c.requires.false_

pub returns-in-Conflict-clause-rule : goal.returns-in-Conflict-clause-rule
returns-in-Conflict-clause-rule c part inside keeps =
    c.visit.ensures.rule part (λ l m. in_grown c.args.trail.now.entries c.loop-watcher.trail.entries l c.loop-watcher.invariant.implied (inside l m)) (c.loop-watcher.invariant.rule part inside keeps)

pub returns-in-Conflict-clause-implied : goal.returns-in-Conflict-clause-implied
returns-in-Conflict-clause-implied c =
    adds_twice c.args.trail.now.entries c.loop-watcher.trail.entries c.visit.new.trail.entries c.loop-watcher.invariant.implied c.visit.ensures.implied

-- none stands twice in the list
once : (c : After-behind) → AreDistinct (watchers c.loop-watcher.self.watched c.args.literal)
once c =
    let place : packed c.args.literal < length c.loop-watcher.self.watched.lists = omega (arith, place_within c.args.trail.now.variables c.args.literal c.requires.literal, c.requires.places, c.loop-watcher.invariant.lines.lists) in
    (c.behind.ensures.exact.lists c.args.literal place).once

pub loop-watcher-smaller-in-Kept : goal.loop-watcher-smaller-in-Kept
loop-watcher-smaller-in-Kept c =
    kept_less c.loop-watcher.self c.visit.new.self c.loop-watcher.trail.entries c.visit.new.trail.entries c.args.literal c.loop-watcher.before c.in-Some.watcher (once (goal.at.loop-watcher-smaller-in-Kept c).After-behind) (sym c.in-Some.ensures.value) c.loop-watcher.invariant.walked c.visit.ensures.implied c.in-Kept.ensures.visit.0

pub loop-watcher-preserved-in-Kept : goal.loop-watcher-preserved-in-Kept
loop-watcher-preserved-in-Kept c =
    let old = c.loop-watcher.self in
    let new = c.visit.new.self in
    let kept = c.loop-watcher.invariant in
    let first = c.args.trail.now.entries in
    let entries = c.loop-watcher.trail.entries in
    let same : new ≡ old = c.in-Kept.ensures.visit.0 in
    record {
      walked = kept_walks old new entries c.visit.new.trail.entries c.args.literal c.loop-watcher.before c.in-Some.watcher (once (goal.at.loop-watcher-preserved-in-Kept c).After-behind) (sym c.in-Some.ensures.value) kept.walked c.visit.ensures.implied same c.in-Kept.ensures.visit.1;
      standing = c.visit.ensures.standing;
      rule = (λ part inside keeps. c.visit.ensures.rule part (λ l m. in_grown first entries l kept.implied (inside l m)) (kept.rule part inside keeps));
      trail = c.visit.ensures.trail;
      implied = adds_twice first entries c.visit.new.trail.entries kept.implied c.visit.ensures.implied;
      variables = c.visit.ensures.variables ∙ kept.variables;
      lines = lines_twice c.args.self.now old new kept.lines (subst (KeepsLines old) (sym same) (lines_same old));
      looked = ap (λ (p : Propagated). p.looked) same ∙ kept.looked;
    }

pub loop-watcher-smaller : goal.loop-watcher-smaller
loop-watcher-smaller c =
    moved_less c.loop-watcher.self c.visit.new.self c.loop-watcher.trail.entries c.visit.new.trail.entries c.args.literal c.loop-watcher.before c.in-Some.watcher (once (goal.at.loop-watcher-smaller c).After-behind) (sym c.in-Some.ensures.value) c.loop-watcher.invariant.walked c.visit.ensures.implied c.in-Moved.ensures.visit

pub loop-watcher-preserved : goal.loop-watcher-preserved
loop-watcher-preserved c =
    let old = c.loop-watcher.self in
    let new = c.visit.new.self in
    let kept = c.loop-watcher.invariant in
    let first = c.args.trail.now.entries in
    let entries = c.loop-watcher.trail.entries in
    let moves = c.in-Moved.ensures.visit in
    let up : c.args.literal.var ≤ c.loop-watcher.trail.variables = omega (arith, c.requires.literal, kept.variables) in
    let more : places c.loop-watcher.trail.variables ≤ length old.watched.lists = omega (arith, c.requires.places, kept.variables, kept.lines.lists) in
    let at = at_list c.loop-watcher.trail.variables old.watched c.args.literal c.loop-watcher.before c.in-Some.watcher more up c.behind.ensures.exact (sym c.in-Some.ensures.value) in
    record {
      walked = moved_walks old new entries c.visit.new.trail.entries c.args.literal c.loop-watcher.before c.in-Some.watcher (once (goal.at.loop-watcher-preserved c).After-behind) (sym c.in-Some.ensures.value) kept.walked c.visit.ensures.implied at.0 moves;
      standing = c.visit.ensures.standing;
      rule = (λ part inside keeps. c.visit.ensures.rule part (λ l m. in_grown first entries l kept.implied (inside l m)) (kept.rule part inside keeps));
      trail = c.visit.ensures.trail;
      implied = adds_twice first entries c.visit.new.trail.entries kept.implied c.visit.ensures.implied;
      variables = c.visit.ensures.variables ∙ kept.variables;
      lines = lines_twice c.args.self.now old new kept.lines (lines_moved old new c.args.literal c.in-Some.watcher moves);
      looked = moves.looked ∙ kept.looked;
    }

pub returns-clause-settled : goal.returns-clause-settled
returns-clause-settled c =
    let place : packed c.args.literal < length c.loop-watcher.self.watched.lists = omega (arith, place_within c.args.trail.now.variables c.args.literal c.requires.literal, c.requires.places, c.loop-watcher.invariant.lines.lists) in
    walked_all c.loop-watcher.self c.loop-watcher.trail.entries c.args.literal c.loop-watcher.before (c.behind.ensures.exact.lists c.args.literal place) (sym c.in_default.ensures.value) c.loop-watcher.invariant.walked

pub returns-in-Conflict-clause-lines : goal.returns-in-Conflict-clause-lines
returns-in-Conflict-clause-lines c =
    lines_twice c.args.self.now c.loop-watcher.self c.visit.new.self c.loop-watcher.invariant.lines (subst (KeepsLines c.loop-watcher.self) (sym c.in-Conflict.ensures.visit.0) (lines_same c.loop-watcher.self))
