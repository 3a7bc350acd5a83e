use Rattle.std.proofs.Common.{◌≡◌, ◌∙◌, ◌∷◌, ◌++◌, [], eqb, sym, ap}
use Rattle.std.specs.Prelude.{None, is_some, if◌then◌else◌}
use Rattle.std.specs.Map.{lookup}
use Rattle.indexmap.proofs.CallerLemmas.{insert_entry-new}
use Rattle.smv_graph.proofs.distances.note.Goals as goal

pub returns-in_ok-insert-in-None : goal.returns-in_ok-insert-in-None
returns-in_ok-insert-in-None c =
    let entries = c.args.distances.now.entries in
    let absent : lookup (eqb c.args.number) entries ≡ None = sym c.in-None.ensures.value in
    c.in_ok-insert-in-None.ensures.entries
    ∙ (insert_entry-new eqb c.args.distances.now c.args.number c.args.distance absent
    ∙ sym (ap (λ o. if is_some o then entries else entries ++ (c.args.number, c.args.distance) ∷ []) absent))
