use Rattle.std.proofs.Common.{◌≡◌, ◌+◌, ◌-◌, false, [], ◌∷◌, ◌++◌, length, take, set, ap, sym, subst, ◌∙◌, length-set}
use Rattle.std.specs.Prelude.{None}
use Rattle.sat_log.specs.Literal.{Literal, negated}
use Rattle.sat_log.specs.Clause.{Among}
use Rattle.sat_log.proofs.ListLemmas.{All-append, All-back}
use Rattle.sat_log.proofs.LiteralLemmas.{negated-negated}
use Rattle.sat_trail.specs.Trail.{literals, bottom}
use Rattle.sat_trail.specs.Units.{AreDecided}
use Rattle.sat_analysis.specs.Analysis.{Analyzed, is_marked, IsMarked, MarksOthers, IsAnalysis, AreNegationsOf}
use Rattle.sat_trail.proofs.Levels.{trail_distinct}
use Rattle.sat_analysis.proofs.Visits.{parts_of, analyzed_is, unmarked_at, visit_skip, visit_keep, reason_at, visit_resolve}
use Rattle.sat_analysis.proofs.analysis.Analysis.trace.Goals as goal

pub resolve-marked-requires-clause-distinct : goal.resolve-marked-requires-clause-distinct
resolve-marked-requires-clause-distinct c = trail_distinct c.args.log.now c.args.trail.now.entries c.requires.trail

pub returns-then-not-unmark-clause-state : goal.returns-then-not-unmark-clause-state
returns-then-not-unmark-clause-state c =
    let log = c.args.log.now in
    let entries = c.args.trail.now.entries in
    let e = c.entry-entry.result in
    let a = c.args.self.now.state in
    let free : is_marked a.seen e.literal.var ≡ false = sym (c.unmark.ensures.mark ∙ ap (is_marked a.seen) c.var.ensures.value) ∙ c.if-not-unmark.true in
    let before = unmarked_at c.unmark.new.self.state a c.var.result e.literal.var c.unmark.ensures.new c.var.ensures.value in
    subst (IsAnalysis log (bottom c.args.i entries)) (sym before) (visit_skip log entries c.args.i e a c.requires.log c.requires.trail c.entry-entry.ensures.entry c.requires.state free)

pub returns-in-None-clause-state : goal.returns-in-None-clause-state
returns-in-None-clause-state c =
    let log = c.args.log.now in
    let entries = c.args.trail.now.entries in
    let e = c.entry-entry.result in
    let a = c.args.self.now.state in
    let marked : IsMarked a.seen e.literal.var = sym (c.unmark.ensures.mark ∙ ap (is_marked a.seen) c.var.ensures.value) ∙ c.if-not-unmark.false in
    let before = unmarked_at c.unmark.new.self.state a c.var.result e.literal.var c.unmark.ensures.new c.var.ensures.value in
    let kept : c.keep.new.self.state ≡ record { seen = set a.seen e.literal.var false; lits = a.lits ++ negated e.literal ∷ []; hints = a.hints } =
    c.keep.ensures.state ∙ ap (λ (x : Analyzed). record { seen = x.seen; lits = x.lits ++ c.negated.result ∷ []; hints = x.hints }) before ∙ ap (λ (l : Literal). record { seen = set a.seen e.literal.var false; lits = a.lits ++ l ∷ []; hints = a.hints }) c.negated.ensures in
    subst (IsAnalysis log (bottom c.args.i entries)) (sym kept) (visit_keep log entries c.args.i e a c.requires.log c.requires.trail c.entry-entry.ensures.entry c.requires.state marked)

pub returns-in-None-clause-kept : goal.returns-in-None-clause-kept
returns-in-None-clause-kept c want decided old =
    let entries = c.args.trail.now.entries in
    let e = c.entry-entry.result in
    let a = c.args.self.now.state in
    let before = unmarked_at c.unmark.new.self.state a c.var.result e.literal.var c.unmark.ensures.new c.var.ensures.value in
    let lits : c.keep.new.self.state.lits ≡ a.lits ++ negated e.literal ∷ [] =
    ap (λ (x : Analyzed). x.lits) (c.keep.ensures.state ∙ ap (λ (x : Analyzed). record { seen = x.seen; lits = x.lits ++ c.negated.result ∷ []; hints = x.hints }) before) ∙ ap (λ (l : Literal). a.lits ++ l ∷ []) c.negated.ensures in
    let here = All-back (λ e. e.reason ≡ None → Among want e.literal) (take (length entries - (c.args.i + 1)) entries) (e ∷ bottom c.args.i entries) (subst (AreDecided want) (parts_of entries c.args.i e c.entry-entry.ensures.entry) decided) in
    subst (AreNegationsOf want) (sym lits) (All-append (λ l. Among want (negated l)) a.lits (negated e.literal ∷ []) old (subst (Among want) (sym (negated-negated e.literal)) (here.0 c.in-None.is), tt))

pub returns-in-Some-clause-state : goal.returns-in-Some-clause-state
returns-in-Some-clause-state c =
    let log = c.args.log.now in
    let entries = c.args.trail.now.entries in
    let e = c.entry-entry.result in
    let a = c.args.self.now.state in
    let marked : IsMarked a.seen e.literal.var = sym (c.unmark.ensures.mark ∙ ap (is_marked a.seen) c.var.ensures.value) ∙ c.if-not-unmark.false in
    let before = unmarked_at c.unmark.new.self.state a c.var.result e.literal.var c.unmark.ensures.new c.var.ensures.value in
    let r = reason_at log entries c.args.i e c.requires.trail c.entry-entry.ensures.entry c.in-Some.reason c.in-Some.is in
    let marks = subst (λ (x : Analyzed). MarksOthers (literals entries) r.clause x.seen c.resolve-marked.new.self.state.seen) before (c.resolve-marked.ensures.marks r.clause r.named) in
    let size : length c.resolve-marked.new.self.state.seen ≡ length a.seen = c.resolve-marked.ensures.size ∙ ap (λ (x : Analyzed). length x.seen) before ∙ length-set a.seen e.literal.var false in
    let after = analyzed_is c.resolve-marked.new.self.state a.lits (c.in-Some.reason ∷ a.hints) (c.resolve-marked.ensures.lits ∙ ap (λ (x : Analyzed). x.lits) before) (c.resolve-marked.ensures.hints ∙ ap (λ (x : Analyzed). c.in-Some.reason ∷ x.hints) before) in
    subst (IsAnalysis log (bottom c.args.i entries)) (sym after) (visit_resolve log entries c.args.i e a c.requires.log c.requires.trail c.entry-entry.ensures.entry c.requires.state c.in-Some.reason c.resolve-marked.new.self.state.seen r marked size marks)
