use Rattle.std.proofs.Common.{◌≡◌, ◌+◌, ◌≤◌, ℕ, List, [], ◌∷◌, length, ap, sym, subst, ◌∙◌, arith}
use Rattle.sat_trail.specs.Trail.{literals, top, bottom}
use Rattle.sat_analysis.specs.Analysis.{Analyzed, IsUnmarked, AreAwaited, marked_at, MarksOthers, AreFalseIn, IsAnalysis, IsAsserting}
use Rattle.sat_trail.proofs.Levels.{trail_distinct}
use Rattle.sat_analysis.proofs.Asserting.{marked_clear}
use Rattle.sat_analysis.proofs.Awaited.{awaits_none, to_next, next_awaited, to_end}
use Rattle.sat_analysis.proofs.Visits.{analyzed_is}
use Rattle.sat_analysis.proofs.Starts.{bottom_whole, conflict_false_in, conflict_starts, conflict_counts}
use Rattle.sat_analysis.proofs.analysis.Analysis.analyze.Goals as goal

pub resolve-pending-requires-clause-distinct : goal.resolve-pending-requires-clause-distinct
resolve-pending-requires-clause-distinct c = trail_distinct c.args.log.now c.args.trail.now.entries c.requires.trail

pub loop-i-init : goal.loop-i-init
loop-i-init c =
    let log = c.args.log.now in
    let entries = c.args.trail.now.entries in
    let conflict = c.requires.conflict in
    let old = c.args.self.now.state.seen in
    let seen = c.resolve-pending.new.self.state.seen in
    let whole : bottom c.len-limit.result entries ≡ entries = ap (λ (n : ℕ). bottom n entries) c.len-limit.ensures.count ∙ bottom_whole entries in
    let marks = subst (λ (x : Analyzed). MarksOthers (literals entries) conflict.clause x.seen seen) c.clear.ensures.state (c.resolve-pending.ensures.marks conflict.clause conflict.named) in
    let size : length seen ≡ length old = c.resolve-pending.ensures.size ∙ ap (λ (x : Analyzed). length x.seen) c.clear.ensures.state in
    let fits : length entries + 1 ≤ length seen = omega (arith, c.len-limit.ensures.count, c.len-limit.ensures.room, c.requires.size) in
    let after = analyzed_is c.resolve-pending.new.self.state [] (c.args.conflict ∷ []) (c.resolve-pending.ensures.lits ∙ ap (λ (x : Analyzed). x.lits) c.clear.ensures.state) (c.resolve-pending.ensures.hints ∙ ap (λ (x : Analyzed). c.args.conflict ∷ x.hints) c.clear.ensures.state) in
    let state = conflict_starts log entries c.args.conflict c.requires.trail conflict old seen c.requires.clear marks fits in
    let false_in = subst (λ (part : List _). AreFalseIn (literals entries) conflict.clause (literals part)) (sym whole) (conflict_false_in log entries c.args.conflict c.requires.trail conflict) in
    let found = c.resolve-pending.ensures.count conflict.clause c.len-limit.result conflict.named false_in in
    let none : marked_at c.level-level.result c.clear.new.self.state.seen (bottom c.len-limit.result entries) ≡ 0 =
    ap (λ (x : Analyzed). marked_at c.level-level.result x.seen (bottom c.len-limit.result entries)) c.clear.ensures.state ∙ marked_clear c.level-level.result old (bottom c.len-limit.result entries) c.requires.clear in
    let counted : c.resolve-pending.result ≡ marked_at c.level-level.result seen (bottom c.len-limit.result entries) = omega arith in
    let some = conflict_counts log entries c.args.conflict c.requires.trail conflict old seen marks c.requires.quiet in
    let here : marked_at c.level-level.result seen (bottom c.len-limit.result entries) ≡ marked_at (top entries) seen entries =
    ap (λ (n : ℕ). marked_at n seen (bottom c.len-limit.result entries)) c.level-level.ensures.value ∙ ap (marked_at (top entries) seen) whole in
    let asserts : IsAsserting c.level-level.result entries c.resolve-pending.result [] = omega arith in
    record {
      inside = omega (arith, c.len-limit.ensures.count);
      awaited = c.resolve-pending.ensures.awaited c.len-limit.result (awaits_none c.clear.new.self (bottom c.len-limit.result entries) c.clear.ensures.positions (subst (λ (x : Analyzed). IsUnmarked x.seen) (sym c.clear.ensures.state) c.requires.clear));
      state = rw whole (subst (IsAnalysis log entries) (sym after) state);
      counted = counted;
      asserting = subst (λ (x : Analyzed). IsAsserting c.level-level.result entries c.resolve-pending.result x.lits) (sym after) asserts;
      size = size;
    }

pub visit-pending-requires-clause-state : goal.visit-pending-requires-clause-state
visit-pending-requires-clause-state c =
    subst (IsAnalysis c.args.log.now (bottom (c.in-Some.i + 1) c.args.trail.now.entries)) (sym c.next.ensures.state)
    (to_next c.args.log.now c.level-level.result c.loop-i.pending c.args.trail.now.entries c.loop-i.limit c.loop-i.self c.loop-i.invariant.inside c.loop-i.invariant.awaited c.loop-i.invariant.state c.loop-i.invariant.counted c.in-Some.i c.next.new.self.positions c.in-Some.ensures.below c.in-Some.ensures.others).0

pub visit-pending-requires-clause-awaited : goal.visit-pending-requires-clause-awaited
visit-pending-requires-clause-awaited c =
    subst (λ (a : Analyzed). AreAwaited c.next.new.self.positions a.seen (bottom c.in-Some.i c.args.trail.now.entries)) (sym c.next.ensures.state)
    (next_awaited c.args.log.now c.level-level.result c.loop-i.pending c.args.trail.now.entries c.loop-i.limit c.loop-i.self c.loop-i.invariant.inside c.loop-i.invariant.awaited c.loop-i.invariant.state c.loop-i.invariant.counted c.in-Some.i c.next.new.self.positions c.in-Some.ensures.below c.in-Some.ensures.others)

pub visit-pending-requires-clause-counted : goal.visit-pending-requires-clause-counted
visit-pending-requires-clause-counted c =
    subst (λ (a : Analyzed). c.loop-i.pending ≡ marked_at c.level-level.result a.seen (bottom (c.in-Some.i + 1) c.args.trail.now.entries)) (sym c.next.ensures.state)
    (to_next c.args.log.now c.level-level.result c.loop-i.pending c.args.trail.now.entries c.loop-i.limit c.loop-i.self c.loop-i.invariant.inside c.loop-i.invariant.awaited c.loop-i.invariant.state c.loop-i.invariant.counted c.in-Some.i c.next.new.self.positions c.in-Some.ensures.below c.in-Some.ensures.others).1

pub returns-clause-state : goal.returns-clause-state
returns-clause-state c =
    subst (IsAnalysis c.args.log.now []) (sym c.next.ensures.state)
    (to_end c.args.log.now c.level-level.result c.loop-i.pending c.args.trail.now.entries c.loop-i.limit c.loop-i.self c.loop-i.invariant.inside c.loop-i.invariant.awaited c.loop-i.invariant.state c.loop-i.invariant.counted c.in_default.ensures.none).0

pub returns-clause-asserting : goal.returns-clause-asserting
returns-clause-asserting c =
    let entries = c.args.trail.now.entries in
    let none : c.loop-i.pending ≡ 0 = (to_end c.args.log.now c.level-level.result c.loop-i.pending entries c.loop-i.limit c.loop-i.self c.loop-i.invariant.inside c.loop-i.invariant.awaited c.loop-i.invariant.state c.loop-i.invariant.counted c.in_default.ensures.none).1 in
    let asserting = subst (λ (n : ℕ). IsAsserting c.level-level.result entries n c.loop-i.self.state.lits) none c.loop-i.invariant.asserting in
    subst (λ (n : ℕ). IsAsserting n entries 0 c.next.new.self.state.lits) c.level-level.ensures.value (subst (λ (a : Analyzed). IsAsserting c.level-level.result entries 0 a.lits) (sym c.next.ensures.state) asserting)
