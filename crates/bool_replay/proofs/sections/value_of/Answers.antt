use Rattle.std.proofs.Common.{◌∙◌}
use Rattle.bool_replay.proofs.SectionLemmas.{lookup-stated}
use Rattle.bool_replay.proofs.sections.value_of.Goals as goal

pub returns : goal.returns
returns c = c.copied.ensures ∙ (c.get.ensures.value ∙ lookup-stated (λ v. v.items) c.args.section.now.stated.entries c.args.name.now)
