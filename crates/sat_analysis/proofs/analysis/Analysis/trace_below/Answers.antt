use Rattle.std.proofs.Common.{◌+◌, [], length, sym, subst, refl, ◌∙◌, ap, arith}
use Rattle.sat_trail.specs.Trail.{bottom}
use Rattle.sat_analysis.specs.Analysis.{Analyzed, marked_at, AreAwaited, IsAnalysis, AreNegationsOf}
use Rattle.sat_analysis.proofs.Awaited.{to_next, next_awaited, to_end}
use Rattle.sat_analysis.proofs.analysis.Analysis.trace_below.Goals as goal

pub trace-requires-clause-inside : goal.trace-requires-clause-inside
trace-requires-clause-inside c = omega (arith, c.in-Some.ensures.below, c.loop-i.invariant.inside)

pub trace-requires-clause-state : goal.trace-requires-clause-state
trace-requires-clause-state c =
    let w = c.loop-i.self in
    let limit = c.loop-i.limit in
    let entries = c.args.trail.now.entries in
    subst (IsAnalysis c.args.log.now (bottom (c.in-Some.i + 1) entries)) (sym c.next.ensures.state)
    (to_next c.args.log.now 0 (marked_at 0 w.state.seen (bottom limit entries)) entries limit w c.loop-i.invariant.inside c.loop-i.invariant.awaited c.loop-i.invariant.state refl c.in-Some.i c.next.new.self.positions c.in-Some.ensures.below c.in-Some.ensures.others).0

pub trace-requires-clause-awaited : goal.trace-requires-clause-awaited
trace-requires-clause-awaited c =
    let w = c.loop-i.self in
    let limit = c.loop-i.limit in
    let entries = c.args.trail.now.entries in
    subst (λ (a : Analyzed). AreAwaited c.next.new.self.positions a.seen (bottom c.in-Some.i entries)) (sym c.next.ensures.state)
    (next_awaited c.args.log.now 0 (marked_at 0 w.state.seen (bottom limit entries)) entries limit w c.loop-i.invariant.inside c.loop-i.invariant.awaited c.loop-i.invariant.state refl c.in-Some.i c.next.new.self.positions c.in-Some.ensures.below c.in-Some.ensures.others)

pub loop-i-preserved : goal.loop-i-preserved
loop-i-preserved c = record {
  inside = omega (arith, c.in-Some.ensures.below, c.loop-i.invariant.inside);
  state = c.trace.ensures.state;
  awaited = c.trace.ensures.awaited;
  kept = (λ want d k. c.trace.ensures.kept want d (subst (λ (a : Analyzed). AreNegationsOf want a.lits) (sym c.next.ensures.state) (c.loop-i.invariant.kept want d k)));
  size = c.trace.ensures.size ∙ ap (λ (a : Analyzed). length a.seen) c.next.ensures.state ∙ c.loop-i.invariant.size;
}

pub returns-clause-state : goal.returns-clause-state
returns-clause-state c =
    let w = c.loop-i.self in
    let limit = c.loop-i.limit in
    let entries = c.args.trail.now.entries in
    subst (IsAnalysis c.args.log.now []) (sym c.next.ensures.state)
    (to_end c.args.log.now 0 (marked_at 0 w.state.seen (bottom limit entries)) entries limit w c.loop-i.invariant.inside c.loop-i.invariant.awaited c.loop-i.invariant.state refl c.in_default.ensures.none).0

pub returns-clause-kept : goal.returns-clause-kept
returns-clause-kept c want d k =
    subst (λ (a : Analyzed). AreNegationsOf want a.lits) (sym c.next.ensures.state) (c.loop-i.invariant.kept want d k)
