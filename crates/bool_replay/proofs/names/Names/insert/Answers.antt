use Rattle.std.proofs.Common.{◌∙◌, sym, ap, ◌++◌, ◌∷◌, []}
use Rattle.std.specs.Str.{bytes_eq}
use Rattle.std.specs.List.{list_any}
use Rattle.bool_replay.proofs.NamesLemmas.{declared_items, added_name}
use Rattle.bool_replay.proofs.names.Names.insert.Goals as goal

pub returns-then-contains-clause-is_new : goal.returns-then-contains-clause-is_new
returns-then-contains-clause-is_new c =
    sym (declared_items (λ v. v.items) c.args.name.now c.self.inside.names.keys c.args.self.now c.self.view_is) ∙ sym c.if-contains.ensures

pub returns-clause-is_new : goal.returns-clause-is_new
returns-clause-is_new c =
    sym (declared_items (λ v. v.items) c.args.name.now c.self.inside.names.keys c.args.self.now c.self.view_is) ∙ sym c.if-contains.ensures

pub returns-clause-added : goal.returns-clause-added
returns-clause-added c =
    let same = c.in_ok-from_slice.ensures.items in
    added_name (λ v. v.items) c.self.inside.names.keys c.insert.new.self.keys c.in_ok-from_slice.field-0 c.args.self.now c.self.view_is
    (ap (λ n. list_any (λ x. bytes_eq n x.items) c.self.inside.names.keys) same ∙ sym c.if-contains.ensures) c.in_ok-insert.ensures.keys
    ∙ ap (λ n. c.args.self.now ++ n ∷ []) same
