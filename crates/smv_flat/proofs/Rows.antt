-- What stands at a place of a table.
use Rattle.std.proofs.Common.{◌≡◌, ℕ, List, [], map, ap}
use Rattle.std.specs.Prelude.{unwrap_or, slice_get, option_map}
use Rattle.std.proofs.lemmas.Option.{slice_get-map}
use Rattle.smv_tree.specs.declared.value.Value.{Value}
use Rattle.smv_flat.specs.declared.definition_row.Row.{Row}
use Rattle.smv_flat.specs.Tables.{row_values}

pub row_law : (rows : List Row) (n : ℕ) → unwrap_or (slice_get (map row_values rows) n) [] ≡ unwrap_or (option_map row_values (slice_get rows n)) []
row_law rows n = ap (λ o. unwrap_or o []) (slice_get-map row_values rows n)
