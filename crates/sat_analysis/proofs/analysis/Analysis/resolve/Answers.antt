use Rattle.std.proofs.Common.{◌≡◌, ◌+◌, ◌≤◌, ◌++◌, ℕ, Bool, List, length, take, drop, ap, sym, subst, ◌∙◌, arith}
use Rattle.std.specs.Prelude.{Some}
use Rattle.std.specs.BinaryHeap.{heap_items}
use Rattle.std.proofs.lemmas.List.{take_at}
use Rattle.sat_log.specs.Literal.{Literal}
use Rattle.sat_trail.specs.Trail.{literals, bottom}
use Rattle.sat_analysis.specs.Analysis.{Walk, marked_at, AreFalseIn, AreAwaited, marked_count}
use Rattle.sat_analysis.proofs.analysis.Analysis.resolve.Goals as goal

pub returns-in-Some-clause-count : goal.returns-in-Some-clause-count
returns-in-Some-clause-count c d i named false_in =
    let a = c.self.inside in
    let rest = c.args.trail.now.entries in
    let same : Some c.in-Some.clause.now ≡ Some d = c.in-Some.ensures ∙ named in
    let here : AreFalseIn (literals rest) c.in-Some.clause.now (literals (bottom i rest)) = subst (λ (x : List Literal). AreFalseIn (literals rest) x (literals (bottom i rest))) (let e : d ≡ c.in-Some.clause.now = cc in e) false_in in
    let counted = c.mark_others.ensures.count i here in
    let size : length c.mark_others.new.seen ≡ a.seen.len = c.mark_others.auto.seen ∙ c.deref_mut.ensures.len in
    let new : take a.seen.len (c.mark_others.new.seen ++ drop (length c.mark_others.new.seen) a.seen.items) ≡ c.mark_others.new.seen =
    take_at c.mark_others.new.seen (drop (length c.mark_others.new.seen) a.seen.items) a.seen.len size in
    let old : c.deref_mut.result.now ≡ c.args.self.now.state.seen = c.deref_mut.ensures.value ∙ ap (λ (v : Walk). v.state.seen) c.self.view_is in
    ap (λ (s : List Bool). marked_at c.args.level s (bottom i rest)) new ∙ counted ∙ ap (λ (s : List Bool). marked_at c.args.level s (bottom i rest) + c.mark_others.result) old

pub returns-in-Some-clause-awaited : goal.returns-in-Some-clause-awaited
returns-in-Some-clause-awaited c i w =
    let a = c.self.inside in
    let size : length c.mark_others.new.seen ≡ a.seen.len = c.mark_others.auto.seen ∙ c.deref_mut.ensures.len in
    let new : take a.seen.len (c.mark_others.new.seen ++ drop (length c.mark_others.new.seen) a.seen.items) ≡ c.mark_others.new.seen =
    take_at c.mark_others.new.seen (drop (length c.mark_others.new.seen) a.seen.items) a.seen.len size in
    let old : c.deref_mut.result.now ≡ c.args.self.now.state.seen = c.deref_mut.ensures.value ∙ ap (λ (v : Walk). v.state.seen) c.self.view_is in
    let positions = ap (λ (v : Walk). v.positions) (sym c.self.view_is) in
    record {
      marked = subst (λ (s : List Bool). AreAwaited (heap_items c.mark_others.new.positions) s (bottom i c.args.trail.now.entries)) (sym new) (c.mark_others.ensures.awaited i (subst (λ (s : List Bool). AreAwaited (heap_items a.positions) s (bottom i c.args.trail.now.entries)) (sym old) (subst (λ (ps : List ℕ). AreAwaited ps c.args.self.now.state.seen (bottom i c.args.trail.now.entries)) positions w.marked)));
      few = subst (λ (s : List Bool). length (heap_items c.mark_others.new.positions) ≤ marked_count s) (sym new) (omega (arith, c.mark_others.ensures.few, c.mark_others.new.positions.data.ok.0));
    }
