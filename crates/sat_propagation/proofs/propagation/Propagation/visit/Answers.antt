use Rattle.std.proofs.Common.{◌≡◌, ◌≢◌, ◌<◌, ◌≤◌, List, [], length, refl, ap, sym, subst, ◌∙◌, inl, arith, rules}
use Rattle.std.specs.Prelude.{Some}
use Rattle.std.proofs.lemmas.Bool.{iff_false}
use Rattle.std.proofs.lemmas.List.{get_or_default}
use Rattle.sat_log.specs.Literal.{Literal}
use Rattle.sat_log.specs.Clause.{Among, IsUnset}
use Rattle.sat_log.specs.Accepted.{clause_at}
use Rattle.sat_log.proofs.LiteralLemmas.{All-among, All-from_among}
use Rattle.sat_watch.specs.Watched.{Watched, pair_at, set_pair, HasWatch, Moves}
use Rattle.sat_trail.specs.Trail.{literals, top}
use Rattle.sat_trail.specs.Units.{IsTrail, IsReason, AddsImplied}
use Rattle.sat_trail.proofs.Tables.{place_within}
use Rattle.sat_trail.proofs.Logs.{named_up_to}
use Rattle.sat_trail.proofs.Levels.{trail_distinct}
use Rattle.sat_trail.proofs.Growth.{implied_follows, adds_one}
use Rattle.sat_trail.specs.declared.trail.Entry.{Entry}
use Rattle.sat_propagation.specs.declared.propagation.Line.{Line}
use Rattle.sat_propagation.specs.Watching.{Propagated, no_line, line_of, StandsFor, KeepsRule, MovesAway}
use Rattle.sat_propagation.proofs.Pairs.{others_false, all_false, at_list}
use Rattle.sat_propagation.proofs.Rules.{moved_rule, moved_stands, grown_rule}
use Rattle.sat_propagation.proofs.propagation.Propagation.visit.Goals as goal
use Rattle.sat_propagation.proofs.propagation.Propagation.visit.Goals.{After-self, After-index-line, After-move_watch, then-id-eq0-via-then-id-eq0, then-id-eq0-via-else-id-eq0+then-is_true}

here : (c : After-self) → (c.args.watcher < length c.args.self.now.watched.pairs) × HasWatch (pair_at c.args.self.now.watched c.args.watcher) c.args.literal
here c =
    at_list c.args.trail.now.variables c.args.self.now.watched c.args.literal c.args.before c.args.watcher c.requires.places c.requires.literal c.requires.exact c.requires.stands

pub other-other-requires-clause-inside : goal.other-other-requires-clause-inside
other-other-requires-clause-inside c = (here (goal.at.other-other-requires-clause-inside c).After-self).0

pub other-other-requires-clause-watches : goal.other-other-requires-clause-watches
other-other-requires-clause-watches c = (here (goal.at.other-other-requires-clause-watches c).After-self).1

pub index-line-requires : goal.index-line-requires
index-line-requires c =
    let below = (here (goal.at.index-line-requires c).After-self).0 in
    omega (arith, below, c.self.invariant, ap (λ (v : Propagated). length v.watched.pairs) c.self.view_is, c.self.inside.lines.ok.0)

-- the line for which it watches
line : (c : After-index-line) → c.index-line.result.now ≡ line_of c.args.self.now c.args.watcher
line c =
    let below : c.args.watcher < length c.args.self.now.watched.pairs = (at_list c.args.trail.now.variables c.args.self.now.watched c.args.literal c.args.before c.args.watcher c.requires.places c.requires.literal c.requires.exact c.requires.stands).0 in
    let inside : c.args.watcher < length c.self.inside.lines.items = omega (arith, below, c.self.invariant, ap (λ (v : Propagated). length v.watched.pairs) c.self.view_is) in
    c.index-line.ensures ∙ get_or_default c.self.inside.lines.items c.args.watcher c.index-line.result.now no_line inside ∙ ap (λ (v : Propagated). line_of v c.args.watcher) c.self.view_is

stands : (c : After-index-line) → c.index-line.result.now.id ≢ 0 → StandsFor c.args.log.now c.index-line.result.now (pair_at c.args.self.now.watched c.args.watcher)
stands c used =
    let below : c.args.watcher < length c.args.self.now.watched.pairs = (at_list c.args.trail.now.variables c.args.self.now.watched c.args.literal c.args.before c.args.watcher c.requires.places c.requires.literal c.requires.exact c.requires.stands).0 in
    subst (λ (i : Line). StandsFor c.args.log.now i (pair_at c.args.self.now.watched c.args.watcher)) (sym (line c)) (c.requires.standing c.args.watcher (below, (λ none. used (ap (λ (l : Line). l.id) (line c) ∙ none))))

up : (c : After-index-line) → c.index-line.result.now.id ≢ 0 → c.other-other.result.var ≤ c.args.trail.now.variables
up c used =
    let s = stands c used in
    All-among (λ k. k.var ≤ c.args.trail.now.variables) s.clause c.other-other.result (named_up_to c.args.trail.now.variables c.args.log.now c.index-line.result.now.id s.clause c.requires.exist s.named) (s.stands c.other-other.result c.other-other.ensures.watches)

watches_is : (c : After-index-line) → c.self.inside.watches ≡ c.args.self.now.watched
watches_is c = ap (λ (v : Propagated). v.watched) c.self.view_is

pub find_at-requires-clause-whole : goal.find_at-requires-clause-whole
find_at-requires-clause-whole c d named binary =
    let s = stands (goal.at.find_at-requires-clause-whole c).After-index-line c.if-id-eq0.false in
    let both : Some s.clause ≡ Some d = sym s.named ∙ named in
    let same : d ≡ s.clause = cc in
    All-from_among (λ l. l ≢ c.args.literal → l ≡ c.other-other.result) d (λ k m ne. c.other-other.ensures.only k (s.whole binary k (subst (λ (x : List Literal). Among x k) same m)) ne)

pub is_true-requires : goal.is_true-requires
is_true-requires c = up (goal.at.is_true-requires c).After-index-line c.if-id-eq0.false

pub returns-then-id-eq0-clause-visit : goal.returns-then-id-eq0-clause-visit
returns-then-id-eq0-clause-visit c = (
  refl,
  (λ used k watches ne. elim c.then-id-eq0.branch [
    | then-id-eq0-via-then-id-eq0 w ↦ absurd (used (sym (ap (λ (l : Line). l.id) (line (goal.at.returns-then-id-eq0-clause-visit c).After-index-line)) ∙ w.if-id-eq0.true))
    | then-id-eq0-via-else-id-eq0+then-is_true w ↦
        subst (Among (literals c.args.trail.now.entries)) (sym (c.other-other.ensures.only k watches ne)) (w.is_true.ensures.0 w.if-is_true.true)
  ]),
)

pub move_watch-requires-clause-to : goal.move_watch-requires-clause-to
move_watch-requires-clause-to c =
    let a = (goal.at.move_watch-requires-clause-to c).After-index-line in
    let s = stands a c.if-id-eq0.false in
    let n = c.args.trail.now.variables in
    let to_up : c.in-Some.to.var ≤ n = All-among (λ k. k.var ≤ n) s.clause c.in-Some.to (named_up_to n c.args.log.now c.index-line.result.now.id s.clause c.requires.exist s.named) (c.in-Some.ensures.stands s.clause s.named) in
    omega (arith, place_within n c.in-Some.to to_up, c.requires.places, ap (λ (w : Watched). length w.lists) (watches_is a))

pub move_watch-requires-clause-other : goal.move_watch-requires-clause-other
move_watch-requires-clause-other c m =
    let a = (goal.at.move_watch-requires-clause-other c).After-index-line in
    let watches = subst (λ (w : Watched). HasWatch (pair_at w c.args.watcher) c.in-Some.to) (watches_is a) m in
    c.in-Some.ensures.open_.not_other (c.other-other.ensures.only c.in-Some.to watches c.in-Some.ensures.open_.not_one)

pub is_true-requires-in-None-1 : goal.is_true-requires-in-None-1
is_true-requires-in-None-1 c =
    subst (λ (k : Literal). k.var ≤ c.args.trail.now.variables) (sym c.negated.ensures) (up (goal.at.is_true-requires-in-None-1 c).After-index-line c.if-id-eq0.false)

pub imply-requires-clause-exists : goal.imply-requires-clause-exists
imply-requires-clause-exists c =
    up (goal.at.imply-requires-clause-exists c).After-index-line c.if-id-eq0.false

moves : (c : After-move_watch) → MovesAway c.args.self.now (record { watched = c.move_watch.new.self; lines = c.self.inside.lines.items; looked = c.self.inside.looked }) c.args.literal c.args.watcher
moves c =
    record {
      to = c.in-Some.to;
      lists = subst (λ (v : Propagated). Moves v.watched c.move_watch.new.self c.args.literal c.in-Some.to c.args.watcher) c.self.view_is c.move_watch.ensures.lists;
      pairs = subst (λ (v : Propagated). c.move_watch.new.self.pairs ≡ set_pair v.watched.pairs c.args.watcher c.args.literal c.in-Some.to) c.self.view_is c.move_watch.ensures.pairs;
      lines = ap (λ (v : Propagated). v.lines) c.self.view_is;
      looked = ap (λ (v : Propagated). v.looked) c.self.view_is;
      apart = c.in-Some.ensures.open_.not_one;
    }

pub returns-in-Some-clause-standing : goal.returns-in-Some-clause-standing
unfolding moves
returns-in-Some-clause-standing c =
    let a = (goal.at.returns-in-Some-clause-standing c).After-index-line in
    let at = here (goal.at.returns-in-Some-clause-standing c).After-self in
    let s = stands a c.if-id-eq0.false in
    moved_stands c.args.self.now (record { watched = c.move_watch.new.self; lines = c.self.inside.lines.items; looked = c.self.inside.looked }) c.args.literal c.args.watcher
    (moves (goal.at.returns-in-Some-clause-standing c).After-move_watch) at.0 (c.requires.exact.two c.args.watcher at.0) at.1 c.args.log.now s.clause
    (subst (λ (i : Line). clause_at c.args.log.now i.id ≡ Some s.clause) (line a) s.named) (c.in-Some.ensures.stands s.clause s.named)
    (λ x m e. c.in-Some.ensures.open_.not_other (c.other-other.ensures.only c.in-Some.to (subst (HasWatch (pair_at c.args.self.now.watched c.args.watcher)) (sym e) m) c.in-Some.ensures.open_.not_one)) c.requires.standing

pub returns-in-Some-clause-rule : goal.returns-in-Some-clause-rule
unfolding moves
returns-in-Some-clause-rule c part inside keeps =
    let at = here (goal.at.returns-in-Some-clause-rule c).After-self in
    let entries = c.args.trail.now.entries in
    moved_rule c.args.self.now (record { watched = c.move_watch.new.self; lines = c.self.inside.lines.items; looked = c.self.inside.looked }) c.args.literal c.args.watcher
    (moves (goal.at.returns-in-Some-clause-rule c).After-move_watch) at.0 (c.requires.exact.two c.args.watcher at.0) at.1 part entries (trail_distinct c.args.log.now entries c.requires.trail)
    inside c.requires.false_ c.in-Some.ensures.open_.not_false keeps

pub returns-in-None-clause-visit : goal.returns-in-None-clause-visit
returns-in-None-clause-visit c =
    let s = stands (goal.at.returns-in-None-clause-visit c).After-index-line c.if-id-eq0.false in
    let set = literals c.args.trail.now.entries in
    let other_false = subst (λ (k : Literal). Among set k) c.negated.ensures (c.if-is_true-2.ensures.0 refl) in (
      refl,
      record {
        clause = s.clause;
        named = s.named;
        falsified = all_false set c.args.literal c.other-other.result s.clause c.requires.false_ other_false (c.in-None.ensures.none s.clause s.named);
      },
    )

pub returns-in-None-2-clause-visit : goal.returns-in-None-2-clause-visit
returns-in-None-2-clause-visit c =
    (refl, (λ used k watches ne. subst (λ (es : List Entry). Among (literals es) k) (sym c.imply.ensures.entries) (inl (sym (c.other-other.ensures.only k watches ne)))))

pub returns-in-None-2-clause-rule : goal.returns-in-None-2-clause-rule
returns-in-None-2-clause-rule c part inside keeps =
    subst (λ (es : List Entry). KeepsRule part es c.args.self.now) (sym c.imply.ensures.entries)
    (grown_rule part c.args.trail.now.entries (record { literal = c.other-other.result; level = top c.args.trail.now.entries; reason = Some c.index-line.result.now.id }) c.args.self.now refl keeps)

pub returns-in-None-2-clause-trail : goal.returns-in-None-2-clause-trail
returns-in-None-2-clause-trail c =
    let s = stands (goal.at.returns-in-None-2-clause-trail c).After-index-line c.if-id-eq0.false in
    let set = literals c.args.trail.now.entries in
    let other = c.other-other.result in
    let free : IsUnset set other = (iff_false c.is_true.ensures c.if-is_true.false, (λ m. iff_false c.if-is_true-2.ensures refl (subst (Among set) (sym c.negated.ensures) m))) in
    let reason : IsReason c.args.log.now set c.index-line.result.now.id other = record {
      clause = s.clause;
      named = s.named;
      implies = record {
        stands = s.stands other c.other-other.ensures.watches;
        others_false = others_false set c.args.literal other s.clause c.requires.false_ (c.in-None-2.ensures.none s.clause s.named);
      };
    } in
    subst (IsTrail c.args.log.now) (sym c.imply.ensures.entries) (implied_follows c.args.log.now c.args.trail.now.entries c.index-line.result.now.id other c.requires.trail free reason)

pub returns-in-None-2-clause-implied : goal.returns-in-None-2-clause-implied
returns-in-None-2-clause-implied c =
    let old = c.args.trail.now.entries in
    subst (AddsImplied old) (sym c.imply.ensures.entries) (adds_one old old (record { literal = c.other-other.result; level = top old; reason = Some c.index-line.result.now.id }) (record { added = []; same = refl; implied = tt }) (search rules))
