use Rattle.std.proofs.Common.{◌≡◌, ◌+◌, ◌-◌, ℕ, false, [], ◌∷◌, ◌++◌, length, take, set, ap, sym, subst, ◌∙◌, refl, length-set, arith, List, ◌≢◌}
use Rattle.std.specs.List.{AllByRecursion}
use Rattle.sat_log.specs.Literal.{Literal, negated}
use Rattle.sat_trail.specs.Trail.{literals, bottom}
use Rattle.sat_analysis.specs.Analysis.{Analyzed, is_marked, IsMarked, marked_at, MarksOthers, IsAnalysis, IsAsserting}
use Rattle.sat_trail.specs.declared.trail.Entry.{Entry}
use Rattle.sat_trail.proofs.Levels.{trail_distinct}
use Rattle.sat_analysis.proofs.Asserting.{skipped_counts, count_here, IsLeft, left_counts, kept_asserts, resolved_asserts}
use Rattle.sat_analysis.proofs.Visits.{parts_of, bottom_length, marked_at_most, analyzed_is, unmarked_at, tail_trail, visit_skip, visit_keep, reason_at, others_false_at, visit_resolve}
use Rattle.sat_analysis.proofs.analysis.Analysis.visit.Goals as goal
use Rattle.sat_analysis.proofs.analysis.Analysis.visit.Goals.{then-entry-level, else-entry-level, After-unmark, Joined-entry-level, After-resolve, After-keep}

pub unmark-requires : goal.unmark-requires
unmark-requires c = omega (arith, c.requires.size, c.var.ensures.value, c.entry-entry.ensures.exists)

-- the marks without that of the entry
unmarked : (c : After-unmark) → c.unmark.new.self.state ≡ record { seen = set c.args.self.now.state.seen c.entry-entry.result.literal.var false; lits = c.args.self.now.state.lits; hints = c.args.self.now.state.hints }
unmarked c =
    c.unmark.ensures.new ∙ ap (λ (v : ℕ). record { seen = set c.args.self.now.state.seen v false; lits = c.args.self.now.state.lits; hints = c.args.self.now.state.hints }) c.var.ensures.value

mark : (c : After-unmark) → c.unmark.result ≡ is_marked c.args.self.now.state.seen c.entry-entry.result.literal.var
mark c = c.unmark.ensures.mark ∙ ap (is_marked c.args.self.now.state.seen) c.var.ensures.value

pub returns-then-not-unmark-clause-state : goal.returns-then-not-unmark-clause-state
returns-then-not-unmark-clause-state c =
    let d = (goal.at.returns-then-not-unmark-clause-state c).After-unmark in
    subst (IsAnalysis c.args.log.now (bottom c.args.i c.args.trail.now.entries)) (sym (unmarked d)) (visit_skip c.args.log.now c.args.trail.now.entries c.args.i c.entry-entry.result c.args.self.now.state c.requires.log c.requires.trail c.entry-entry.ensures.entry c.requires.state (sym (mark d) ∙ c.if-not-unmark.true))

pub resolve-requires-clause-distinct : goal.resolve-requires-clause-distinct
resolve-requires-clause-distinct c = trail_distinct c.args.log.now c.args.trail.now.entries c.requires.trail

pub returns-then-not-unmark-clause-counted : goal.returns-then-not-unmark-clause-counted
returns-then-not-unmark-clause-counted c =
    let d = (goal.at.returns-then-not-unmark-clause-counted c).After-unmark in
    let log = c.args.log.now in
    let entries = c.args.trail.now.entries in
    let e = c.entry-entry.result in
    let a = c.args.self.now.state in
    let t = tail_trail log entries c.args.i e a c.requires.log c.requires.trail c.entry-entry.ensures.entry c.requires.state in
    c.requires.counted ∙ ap (marked_at c.args.level a.seen) c.entry-entry.ensures.entry ∙ skipped_counts log c.args.level a.seen e (bottom c.args.i entries) t (sym (mark d) ∙ c.if-not-unmark.true) ∙ sym (ap (λ (x : Analyzed). marked_at c.args.level x.seen (bottom c.args.i entries)) (unmarked d))

-- what is left where the entry is of the level, and where it isn't
left_at : (c : Joined-entry-level) → IsMarked c.args.self.now.state.seen c.entry-entry.result.literal.var → IsLeft c.entry-entry.result.level c.args.level c.args.pending c.if-entry-level.left
left_at c marked =
    let e = c.entry-entry.result in
    let entries = c.args.trail.now.entries in
    let counted = c.requires.counted ∙ ap (marked_at c.args.level c.args.self.now.state.seen) c.entry-entry.ensures.entry in
    elim c.if-entry-level.branch [
      | then-entry-level w ↦ ((λ here. let count = count_here c.args.level c.args.self.now.state.seen e (bottom c.args.i entries) here marked in omega (arith, w.left-is)), (λ there. absurd (there w.if-entry-level.true)))
      | else-entry-level w ↦ ((λ here. absurd (w.if-entry-level.false here)), (λ there. w.left-is))
    ]

pub returns-in-None-clause-state : goal.returns-in-None-clause-state
returns-in-None-clause-state c =
    let log = c.args.log.now in
    let entries = c.args.trail.now.entries in
    let e = c.entry-entry.result in
    let a = c.args.self.now.state in
    let marked : IsMarked a.seen e.literal.var = sym (c.unmark.ensures.mark ∙ ap (is_marked a.seen) c.var.ensures.value) ∙ c.if-not-unmark.false in
    let before = unmarked_at c.unmark.new.self.state a c.var.result e.literal.var c.unmark.ensures.new c.var.ensures.value in
    let kept : c.keep.new.self.state ≡ record { seen = set a.seen e.literal.var false; lits = a.lits ++ negated e.literal ∷ []; hints = a.hints } =
    c.keep.ensures.state ∙ ap (λ (x : Analyzed). record { seen = x.seen; lits = x.lits ++ c.negated.result ∷ []; hints = x.hints }) before ∙ ap (λ (l : Literal). record { seen = set a.seen e.literal.var false; lits = a.lits ++ l ∷ []; hints = a.hints }) c.negated.ensures in
    subst (IsAnalysis log (bottom c.args.i entries)) (sym kept) (visit_keep log entries c.args.i e a c.requires.log c.requires.trail c.entry-entry.ensures.entry c.requires.state marked)

pub returns-in-None-clause-counted : goal.returns-in-None-clause-counted
returns-in-None-clause-counted c =
    let log = c.args.log.now in
    let entries = c.args.trail.now.entries in
    let e = c.entry-entry.result in
    let a = c.args.self.now.state in
    let d = (goal.at.returns-in-None-clause-counted c).Joined-entry-level in
    let marked : IsMarked a.seen e.literal.var = sym (c.unmark.ensures.mark ∙ ap (is_marked a.seen) c.var.ensures.value) ∙ c.if-not-unmark.false in
    let before = unmarked_at c.unmark.new.self.state a c.var.result e.literal.var c.unmark.ensures.new c.var.ensures.value in
    let counted = c.requires.counted ∙ ap (marked_at c.args.level a.seen) c.entry-entry.ensures.entry in
    let counts = left_counts log entries (take (length entries - (c.args.i + 1)) entries) e (bottom c.args.i entries) (parts_of entries c.args.i e c.entry-entry.ensures.entry) c.requires.trail c.args.level c.requires.latest a.seen a.lits c.args.pending c.if-entry-level.left marked counted (left_at d marked) c.requires.asserting in
    counts ∙ sym (ap (λ (x : Analyzed). marked_at c.args.level x.seen (bottom c.args.i entries)) (c.keep.ensures.state ∙ ap (λ (x : Analyzed). record { seen = x.seen; lits = x.lits ++ c.negated.result ∷ []; hints = x.hints }) before))

pub returns-in-None-clause-asserting : goal.returns-in-None-clause-asserting
returns-in-None-clause-asserting c =
    let log = c.args.log.now in
    let entries = c.args.trail.now.entries in
    let e = c.entry-entry.result in
    let a = c.args.self.now.state in
    let d = (goal.at.returns-in-None-clause-asserting c).Joined-entry-level in
    let marked : IsMarked a.seen e.literal.var = sym (c.unmark.ensures.mark ∙ ap (is_marked a.seen) c.var.ensures.value) ∙ c.if-not-unmark.false in
    let before = unmarked_at c.unmark.new.self.state a c.var.result e.literal.var c.unmark.ensures.new c.var.ensures.value in
    let counted = c.requires.counted ∙ ap (marked_at c.args.level a.seen) c.entry-entry.ensures.entry in
    let asserts = kept_asserts log entries (take (length entries - (c.args.i + 1)) entries) e (bottom c.args.i entries) (parts_of entries c.args.i e c.entry-entry.ensures.entry) c.requires.trail c.args.level c.requires.latest a.seen a.lits c.args.pending c.if-entry-level.left marked counted (left_at d marked) c.requires.asserting c.in-None.ensures.kept (subst (λ (es : List Entry). AllByRecursion (λ f. AllByRecursion (λ l. l.var ≢ f.literal.var) a.lits) es) c.entry-entry.ensures.entry c.requires.state.apart) in
    let lits : c.keep.new.self.state.lits ≡ a.lits ++ negated e.literal ∷ [] =
    ap (λ (x : Analyzed). x.lits) (c.keep.ensures.state ∙ ap (λ (x : Analyzed). record { seen = x.seen; lits = x.lits ++ c.negated.result ∷ []; hints = x.hints }) before) ∙ ap (λ (l : Literal). a.lits ++ l ∷ []) c.negated.ensures in
    subst (IsAsserting c.args.level entries c.if-entry-level.left) (sym lits) asserts

-- what resolving leaves
marked_there : (c : After-resolve) → IsMarked c.args.self.now.state.seen c.entry-entry.result.literal.var
marked_there c = sym (c.unmark.ensures.mark ∙ ap (is_marked c.args.self.now.state.seen) c.var.ensures.value) ∙ c.if-not-unmark.false

resolved_count : (c : After-resolve) → IsLeft c.entry-entry.result.level c.args.level c.args.pending c.if-entry-level.left → c.if-entry-level.left + c.resolve.result ≡ marked_at c.args.level c.resolve.new.self.state.seen (bottom c.args.i c.args.trail.now.entries)
resolved_count c is_left =
    let log = c.args.log.now in
    let entries = c.args.trail.now.entries in
    let e = c.entry-entry.result in
    let a = c.args.self.now.state in
    let r = reason_at log entries c.args.i e c.requires.trail c.entry-entry.ensures.entry c.in-Some.reason c.in-Some.ensures.reason in
    let false_in = others_false_at log entries c.args.i e c.requires.trail c.entry-entry.ensures.entry c.in-Some.reason r in
    let found = c.resolve.ensures.count r.clause c.args.i r.named false_in in
    let before = unmarked_at c.unmark.new.self.state a c.var.result e.literal.var c.unmark.ensures.new c.var.ensures.value in
    let counted = c.requires.counted ∙ ap (marked_at c.args.level a.seen) c.entry-entry.ensures.entry in
    let counts = left_counts log entries (take (length entries - (c.args.i + 1)) entries) e (bottom c.args.i entries) (parts_of entries c.args.i e c.entry-entry.ensures.entry) c.requires.trail c.args.level c.requires.latest a.seen a.lits c.args.pending c.if-entry-level.left (marked_there c) counted is_left c.requires.asserting in
    let same : marked_at c.args.level c.unmark.new.self.state.seen (bottom c.args.i entries) ≡ c.if-entry-level.left = ap (λ (x : Analyzed). marked_at c.args.level x.seen (bottom c.args.i entries)) before ∙ sym counts in
    omega arith

pub overflow_add-result : goal.overflow_add-result
overflow_add-result c =
    let d = (goal.at.overflow_add-result c).After-resolve in
    let count = resolved_count d (left_at (goal.at.overflow_add-result c).Joined-entry-level (marked_there d)) in
    omega (arith, count, marked_at_most c.args.level c.resolve.new.self.state.seen (bottom c.args.i c.args.trail.now.entries), bottom_length c.args.trail.now.entries c.args.i (omega arith))

pub returns-in-Some-clause-counted : goal.returns-in-Some-clause-counted
returns-in-Some-clause-counted c =
    let d = (goal.at.returns-in-Some-clause-counted c).After-resolve in
    resolved_count d (left_at (goal.at.returns-in-Some-clause-counted c).Joined-entry-level (marked_there d))

pub returns-in-Some-clause-asserting : goal.returns-in-Some-clause-asserting
returns-in-Some-clause-asserting c =
    let log = c.args.log.now in
    let entries = c.args.trail.now.entries in
    let e = c.entry-entry.result in
    let a = c.args.self.now.state in
    let d = (goal.at.returns-in-Some-clause-asserting c).After-resolve in
    let is_left = left_at (goal.at.returns-in-Some-clause-asserting c).Joined-entry-level (marked_there d) in
    let before = unmarked_at c.unmark.new.self.state a c.var.result e.literal.var c.unmark.ensures.new c.var.ensures.value in
    let counted = c.requires.counted ∙ ap (marked_at c.args.level a.seen) c.entry-entry.ensures.entry in
    let asserts = resolved_asserts log entries (take (length entries - (c.args.i + 1)) entries) e (bottom c.args.i entries) (parts_of entries c.args.i e c.entry-entry.ensures.entry) c.requires.trail c.args.level c.requires.latest a.seen a.lits c.args.pending c.if-entry-level.left (marked_there d) counted is_left c.requires.asserting c.resolve.result (c.if-entry-level.left + c.resolve.result) c.resolve.new.self.state.seen c.in-Some.ensures.others refl (resolved_count d is_left) in
    subst (IsAsserting c.args.level entries (c.if-entry-level.left + c.resolve.result)) (sym (c.resolve.ensures.lits ∙ ap (λ (x : Analyzed). x.lits) before)) asserts

pub returns-in-Some-clause-state : goal.returns-in-Some-clause-state
returns-in-Some-clause-state c =
    let log = c.args.log.now in
    let entries = c.args.trail.now.entries in
    let e = c.entry-entry.result in
    let a = c.args.self.now.state in
    let d = (goal.at.returns-in-Some-clause-state c).After-resolve in
    let before = unmarked_at c.unmark.new.self.state a c.var.result e.literal.var c.unmark.ensures.new c.var.ensures.value in
    let r = reason_at log entries c.args.i e c.requires.trail c.entry-entry.ensures.entry c.in-Some.reason c.in-Some.ensures.reason in
    let marks = subst (λ (x : Analyzed). MarksOthers (literals entries) r.clause x.seen c.resolve.new.self.state.seen) before (c.resolve.ensures.marks r.clause r.named) in
    let size : length c.resolve.new.self.state.seen ≡ length a.seen = c.resolve.ensures.size ∙ ap (λ (x : Analyzed). length x.seen) before ∙ length-set a.seen e.literal.var false in
    let after = analyzed_is c.resolve.new.self.state a.lits (c.in-Some.reason ∷ a.hints) (c.resolve.ensures.lits ∙ ap (λ (x : Analyzed). x.lits) before) (c.resolve.ensures.hints ∙ ap (λ (x : Analyzed). c.in-Some.reason ∷ x.hints) before) in
    subst (IsAnalysis log (bottom c.args.i entries)) (sym after) (visit_resolve log entries c.args.i e a c.requires.log c.requires.trail c.entry-entry.ensures.entry c.requires.state c.in-Some.reason c.resolve.new.self.state.seen r (marked_there d) size marks)
