use Rattle.std.proofs.Common.{◌∙◌, ◌||◌, ap, sym}
use Rattle.std.specs.Prelude.{is_some}
use Rattle.std.specs.Map.{lookup}
use Rattle.std.specs.Str.{bytes_eq}
use Rattle.smv_tree.specs.Models.{part_of}
use Rattle.smv_types.proofs.Excluding.{inserted_name, excluded_here}
use Rattle.smv_types.proofs.again.with_excluded.Goals as goal

pub returns-in_ok-insert-in-Assign : goal.returns-in_ok-insert-in-Assign
returns-in_ok-insert-in-Assign c m =
    inserted_name m c.as_slice.result.now c.args.number c.args.names c.insert.new.self c.in_ok-insert-in-Assign.ensures
    ∙ ap (λ b. is_some (lookup (bytes_eq m) c.args.names) || b)
    (excluded_here c.args.moment m (part_of c.args.item.now) c.in-Assign.earlier _ c.as_slice.result.now _ _ (ap part_of c.in-Assign.is) c.as_slice.ensures.bytes (sym c.excludes.ensures ∙ c.if-excludes.true))
