use Rattle.std.proofs.Common.{arith}
use Rattle.bool_replay.proofs.StateLemmas.{read_more, read_lack}
use Rattle.bool_replay.specs.SectionViews.{section_of}
use Rattle.bool_replay.proofs.states.state_of.Goals as goal

pub returns-in-None : goal.returns-in-None
returns-in-None c =
    (omega arith, read_lack c.args.names.now (section_of c.args.section.now) c.loop-index.index c.loop-index.state.items c.get.result.now c.get.ensures c.in-None.ensures c.loop-index.invariant)

pub loop-index-preserved : goal.loop-index-preserved
loop-index-preserved c =
    read_more c.args.names.now (section_of c.args.section.now) c.loop-index.index c.loop-index.state.items c.push.new.self.items c.get.result.now c.in-Some.value c.get.ensures c.in-Some.ensures c.in_ok-push-in-Some.ensures.items c.loop-index.invariant
