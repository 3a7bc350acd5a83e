use Rattle.std.proofs.Common.{◌∙◌}
use Rattle.bool_replay.proofs.NamesLemmas.{position_items}
use Rattle.bool_replay.proofs.names.Names.index_of.Goals as goal

pub returns : goal.returns
returns c = c.get_index_of.ensures.index ∙ position_items (λ v. v.items) c.args.name.now c.self.inside.names.keys c.args.self.now c.self.view_is
