use Rattle.std.proofs.Common.{◌∙◌, ◌<◌, ap, sym, subst, length, map}
use Rattle.std.proofs.lemmas.List.{length-map}
use Rattle.smv_tree.specs.Models.{bodies}
use Rattle.bool_replay.specs.Evaluation.{stop_of}
use Rattle.bool_replay.specs.Plain.{names_of}
use Rattle.bool_replay.specs.Stops.{verdict_of}
use Rattle.bool_replay.specs.TraceTexts.{IsTraceText}
use Rattle.bool_replay.specs.SectionViews.{section_of}
use Rattle.bool_replay.proofs.JudgeLemmas.{no_trace, a_replay}
use Rattle.bool_replay.proofs.judge.judge.Goals as goal

pub returns-in_default : goal.returns-in_default
returns-in_default c =
    let m = c.args.model.now in
    no_trace (bodies m.program) m.names c.args.text.now m.plain m.named (rw c.in_default.is at c.in_ok-sections.ensures)

pub returns : goal.returns
returns c =
    let m = c.args.model.now in
    let found = rw c.in-Some.is at c.in_ok-sections.ensures in
    let given = rw c.in-All.is at c.in_ok-line.ensures in
    let r = c.replay.ensures in
    let kept = c.as_slice.result.now in
    let held = c.as_slice-in-All.result.now in
    let same_kept = c.as_slice.ensures.value in
    let same_held = c.as_slice-in-All.ensures.value in
    a_replay (bodies m.program) m.names c.args.text.now (map section_of kept) (map (λ s. s.items) held) c.replay.result m.named
    (subst (λ ks. IsTraceText m.names c.args.text.now (map section_of ks)) (sym same_kept) found.0)
    (subst (λ n. 0 < n) (sym (length-map kept section_of ∙ ap length same_kept)) found.1)
    (given.0, ap (map (λ s. s.items)) same_held ∙ given.1)
    r.0 r.1 r.2 (r.3 ∙ ap (λ n. verdict_of n (stop_of (names_of r.0.parts) r.0.parts (map (λ s. s.items) held))) (sym (length-map held (λ s. s.items))))
