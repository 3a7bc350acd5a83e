use Rattle.std.proofs.Common.{◌∙◌}
use Rattle.bool_replay.proofs.NamesLemmas.{declared_items}
use Rattle.bool_replay.proofs.names.Names.contains.Goals as goal

pub returns : goal.returns
returns c = c.contains.ensures ∙ declared_items (λ v. v.items) c.args.name.now c.self.inside.names.keys c.args.self.now c.self.view_is
