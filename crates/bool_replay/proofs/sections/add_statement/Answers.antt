use Rattle.std.proofs.Common.{◌≡◌, ◌∙◌, sym, ap, map, ◌++◌, ◌∷◌, []}
use Rattle.std.specs.Prelude.{Some, None, is_some}
use Rattle.bool_replay.specs.TraceTexts.{value_of}
use Rattle.bool_replay.specs.SectionViews.{section_of}
use Rattle.bool_replay.proofs.SectionLemmas.{statement_added, inserted_last, no_value, stated_of}
use Rattle.bool_replay.proofs.sections.add_statement.Goals as goal

pub returns : goal.returns
returns c =
    let s = section_of c.args.section in
    let name = c.in_ok-from_slice.ensures.items in
    let absent : value_of s.stated c.args.name.now ≡ None = no_value (value_of s.stated c.args.name.now) (sym (ap is_some c.value_of.ensures) ∙ (sym c.is_some.ensures ∙ c.if-is_some.false)) in
    let put = ap (map (stated_of (λ v. v.items))) c.in_ok-insert.ensures.entries
    ∙ (inserted_last (λ v. v.items) c.args.section.stated.entries c.in_ok-from_slice.field-0 c.args.value (ap (value_of s.stated) name ∙ absent)
    ∙ ap (λ n. s.stated ++ (n, c.args.value) ∷ []) name) in
    sym (statement_added c.args.names.now s c.args.name.now c.args.value (sym c.contains.ensures ∙ c.if-not-contains.false) absent
    ∙ ap (λ xs. Some (record { line = c.args.section.line; stated = xs })) (sym put))
