use Rattle.std.proofs.Common.{◌≡◌, ◌+◌, ◌≤◌, [], ◌∷◌, ◌++◌, length, ap, sym, subst, ◌∙◌, arith}
use Rattle.sat_trail.specs.Trail.{literals, bottom}
use Rattle.sat_analysis.specs.Analysis.{Analyzed, IsUnmarked, MarksOthers, IsAnalysis, AreNegationsOf}
use Rattle.sat_trail.proofs.Levels.{trail_distinct, bottom_inside}
use Rattle.sat_analysis.proofs.Awaited.{awaits_none}
use Rattle.sat_analysis.proofs.Visits.{analyzed_is, bottom_length}
use Rattle.sat_analysis.proofs.Starts.{bottom_distinct, implied_starts}
use Rattle.sat_analysis.proofs.analysis.Analysis.refute_from.Goals as goal

pub resolve-marked-requires-clause-distinct : goal.resolve-marked-requires-clause-distinct
resolve-marked-requires-clause-distinct c = trail_distinct c.args.log.now c.args.trail.now.entries c.requires.trail

pub trace_below-requires-clause-state : goal.trace_below-requires-clause-state
trace_below-requires-clause-state c =
    let log = c.args.log.now in
    let entries = c.args.trail.now.entries in
    let rest = bottom c.args.position entries in
    let r = c.requires.implied in
    let l = c.args.literal in
    let old = c.args.self.now.state.seen in
    let seen = c.resolve-marked.new.self.state.seen in
    let before : c.keep.new.self.state ≡ record { seen = old; lits = l ∷ []; hints = [] } =
    c.keep.ensures.state ∙ ap (λ (x : Analyzed). record { seen = x.seen; lits = x.lits ++ l ∷ []; hints = x.hints }) c.clear.ensures.state in
    let marks = subst (λ (x : Analyzed). MarksOthers (literals entries) r.clause x.seen seen) before (c.resolve-marked.ensures.marks r.clause r.named) in
    let size : length seen ≡ length old = c.resolve-marked.ensures.size ∙ ap (λ (x : Analyzed). length x.seen) before in
    let fits : length rest + 1 ≤ length seen = omega (arith, bottom_length entries c.args.position (omega arith), c.requires.size, c.requires.room) in
    let lits = c.resolve-marked.ensures.lits ∙ ap (λ (x : Analyzed). x.lits) before in
    let after = analyzed_is c.resolve-marked.new.self.state (l ∷ []) (c.args.reason ∷ []) lits (c.resolve-marked.ensures.hints ∙ ap (λ (x : Analyzed). c.args.reason ∷ x.hints) before) in
    subst (IsAnalysis log rest) (sym after) (implied_starts log entries rest c.args.reason l c.requires.trail r (λ k m. bottom_inside c.args.position entries k m) c.requires.true_ old seen c.requires.clear marks (bottom_distinct log c.args.position entries c.requires.trail) c.requires.apart fits)

pub trace_below-requires-clause-awaited : goal.trace_below-requires-clause-awaited
trace_below-requires-clause-awaited c =
    let rest = bottom c.args.position c.args.trail.now.entries in
    c.resolve-marked.ensures.awaited c.args.position (c.keep.ensures.awaited rest (awaits_none c.clear.new.self rest c.clear.ensures.positions (subst (λ (x : Analyzed). IsUnmarked x.seen) (sym c.clear.ensures.state) c.requires.clear)))

pub returns-clause-kept : goal.returns-clause-kept
returns-clause-kept c want d m =
    let lits = c.resolve-marked.ensures.lits ∙ ap (λ (x : Analyzed). x.lits) (c.keep.ensures.state ∙ ap (λ (x : Analyzed). record { seen = x.seen; lits = x.lits ++ c.args.literal ∷ []; hints = x.hints }) c.clear.ensures.state) in
    c.trace_below.ensures.kept want d (subst (AreNegationsOf want) (sym lits) (m, tt))
