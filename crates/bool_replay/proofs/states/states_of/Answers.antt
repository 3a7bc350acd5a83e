use Rattle.std.proofs.Common.{◌+◌, ◌∷◌, ◌∙◌, sym, ap, drop, map}
use Rattle.bool_replay.specs.SectionViews.{section_of}
use Rattle.bool_replay.proofs.PlainLemmas.{map_from}
use Rattle.bool_replay.proofs.StateLemmas.{sections_gap}
use Rattle.bool_replay.proofs.states.states_of.Goals as goal

pub returns-in-Err : goal.returns-in-Err
returns-in-Err c =
    let found = rw c.in-Err.is at c.in_ok-state.ensures in (
      found.0,
      sections_gap c.args.names.now (map section_of c.args.sections.now) (map section_of (drop c.loop-section.section-index c.args.sections.now)) (map section_of (drop (c.loop-section.section-index + 1) c.args.sections.now)) (section_of c.section-item.result) _ c.in-Err.index
          (map_from section_of c.args.sections.now c.loop-section.section-index c.section-item.result c.loop-section-test.true ∙ ap (λ x. section_of x ∷ map section_of (drop (c.loop-section.section-index + 1) c.args.sections.now)) (sym c.section-item.is))
          found c.loop-section.invariant,
    )
