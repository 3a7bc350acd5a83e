use Rattle.std.proofs.Common.{◌∙◌, sym, ap}
use Rattle.std.specs.Map.{lookup}
use Rattle.std.specs.Str.{bytes_eq}
use Rattle.smv_graph.proofs.Numbering.{lookup-map}
use Rattle.smv_names.proofs.table.Table.get.Goals as goal

pub returns : goal.returns
returns c =
    c.copied.ensures ∙ (c.get.ensures.value
    ∙ (sym (lookup-map (λ v. v.items) (bytes_eq c.args.name.now) c.self.inside.names.entries)
    ∙ ap (lookup (bytes_eq c.args.name.now)) c.self.view_is))
