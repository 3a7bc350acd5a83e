use Rattle.std.proofs.Common.{◌≡◌, ◌+◌, ◌≤◌, ℕ, [], ◌∷◌, length, ap, sym, subst, ◌∙◌, arith}
use Rattle.sat_trail.specs.Trail.{literals, bottom}
use Rattle.sat_analysis.specs.Analysis.{Analyzed, IsUnmarked, MarksOthers, IsAnalysis, AreNegationsOf}
use Rattle.sat_trail.proofs.Levels.{trail_distinct}
use Rattle.sat_analysis.proofs.Awaited.{awaits_none}
use Rattle.sat_analysis.proofs.Visits.{analyzed_is}
use Rattle.sat_analysis.proofs.Starts.{bottom_whole, conflict_starts}
use Rattle.sat_analysis.proofs.analysis.Analysis.refute.Goals as goal

pub resolve-marked-requires-clause-distinct : goal.resolve-marked-requires-clause-distinct
resolve-marked-requires-clause-distinct c = trail_distinct c.args.log.now c.args.trail.now.entries c.requires.trail

pub trace_below-requires-clause-state : goal.trace_below-requires-clause-state
trace_below-requires-clause-state c =
    let log = c.args.log.now in
    let entries = c.args.trail.now.entries in
    let conflict = c.requires.conflict in
    let old = c.args.self.now.state.seen in
    let seen = c.resolve-marked.new.self.state.seen in
    let whole : bottom c.len.result entries ≡ entries = ap (λ (n : ℕ). bottom n entries) c.len.ensures.count ∙ bottom_whole entries in
    let marks = subst (λ (x : Analyzed). MarksOthers (literals entries) conflict.clause x.seen seen) c.clear.ensures.state (c.resolve-marked.ensures.marks conflict.clause conflict.named) in
    let size : length seen ≡ length old = c.resolve-marked.ensures.size ∙ ap (λ (x : Analyzed). length x.seen) c.clear.ensures.state in
    let fits : length entries + 1 ≤ length seen = omega (arith, c.len.ensures.count, c.len.ensures.room, c.requires.size) in
    let lits = c.resolve-marked.ensures.lits ∙ ap (λ (x : Analyzed). x.lits) c.clear.ensures.state in
    let after = analyzed_is c.resolve-marked.new.self.state [] (c.args.conflict ∷ []) lits (c.resolve-marked.ensures.hints ∙ ap (λ (x : Analyzed). c.args.conflict ∷ x.hints) c.clear.ensures.state) in
    rw whole (subst (IsAnalysis log entries) (sym after) (conflict_starts log entries c.args.conflict c.requires.trail conflict old seen c.requires.clear marks fits))

pub trace_below-requires-clause-awaited : goal.trace_below-requires-clause-awaited
trace_below-requires-clause-awaited c =
    c.resolve-marked.ensures.awaited c.len.result (awaits_none c.clear.new.self (bottom c.len.result c.args.trail.now.entries) c.clear.ensures.positions (subst (λ (x : Analyzed). IsUnmarked x.seen) (sym c.clear.ensures.state) c.requires.clear))

pub returns-clause-kept : goal.returns-clause-kept
returns-clause-kept c want d =
    let lits = c.resolve-marked.ensures.lits ∙ ap (λ (x : Analyzed). x.lits) c.clear.ensures.state in
    c.trace_below.ensures.kept want d (subst (AreNegationsOf want) (sym lits) tt)
