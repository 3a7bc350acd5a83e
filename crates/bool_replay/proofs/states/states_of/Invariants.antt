use Rattle.std.proofs.Common.{map, drop}
use Rattle.bool_replay.specs.SectionViews.{section_of}
use Rattle.bool_replay.proofs.StateLemmas.{SectionsTo}
use Rattle.bool_replay.proofs.states.states_of.Given as goal

abbrev pub invariant-loop-section : goal.invariant-loop-section
invariant-loop-section l = SectionsTo l.names (map section_of l.sections) (map section_of (drop l.section-index l.sections)) (map (λ s. s.items) l.states.items)
