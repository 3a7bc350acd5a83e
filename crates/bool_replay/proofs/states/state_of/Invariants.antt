use Rattle.bool_replay.specs.SectionViews.{section_of}
use Rattle.bool_replay.proofs.StateLemmas.{ReadTo}
use Rattle.bool_replay.proofs.states.state_of.Given as goal

abbrev pub invariant-loop-index : goal.invariant-loop-index
invariant-loop-index l = ReadTo l.names (section_of l.section) l.index l.state.items
