use Rattle.std.proofs.Common.{◌≡◌, ◌∙◌, sym}
use Rattle.std.specs.Prelude.{None}
use Rattle.std.specs.Map.{lookup}
use Rattle.std.specs.Str.{bytes_eq}
use Rattle.indexmap.proofs.CallerLemmas.{insert_entry-new}
use Rattle.smv_graph.proofs.Numbering.{absent_key, inserted}
use Rattle.smv_names.proofs.table.Table.with.Goals as goal

pub returns-in_ok-insert-in-None : goal.returns-in_ok-insert-in-None
returns-in_ok-insert-in-None c =
    let same = c.in_ok-from_slice-in-None.ensures.items in
    let absent : lookup (bytes_eq c.args.name.now) c.args.self ≡ None = sym c.in-None.ensures in
    inserted (λ v. v.items) c.self.inside.names.entries c.insert.new.self.entries c.in_ok-from_slice-in-None.field-0 c.args.declared c.args.name.now c.args.self c.self.view_is same absent
    (c.in_ok-insert-in-None.ensures.entries ∙ insert_entry-new (λ x y. bytes_eq x.items y.items) c.self.inside.names c.in_ok-from_slice-in-None.field-0 c.args.declared
    (absent_key (λ v. v.items) c.self.inside.names.entries c.in_ok-from_slice-in-None.field-0 c.args.name.now c.args.self c.self.view_is same absent))
