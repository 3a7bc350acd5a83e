use Rattle.std.proofs.Common.{◌∙◌, sym, ap}
use Rattle.std.specs.Prelude.{position}
use Rattle.std.specs.Str.{bytes_eq}
use Rattle.smv_tree.proofs.Positions.{position-map}
use Rattle.smv_names.proofs.symbols.Symbols.get.Goals as goal

pub returns : goal.returns
returns c =
    c.get_index_of.ensures.index
    ∙ (sym (position-map (bytes_eq c.args.name.now) (λ v. v.items) c.self.inside.names.keys)
    ∙ ap (position (bytes_eq c.args.name.now)) c.self.view_is)
