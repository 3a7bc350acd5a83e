-- The table of the values of definitions, as the program has it.
use Rattle.std.specs.Prelude.{List, [], ◌∷◌, map}
use Rattle.smv_tree.specs.declared.value.Value.{Value}
use Rattle.smv_meaning.specs.FlatTrees.{Numbers}
use Rattle.smv_flat.specs.FlatModels.{model_of}
use Rattle.smv_flat.specs.Slots.{slots_of}
use Rattle.smv_flat.specs.Moments.{numbers_with}
use Rattle.smv_flat.specs.declared.definition_row.Row.{Row}
use Rattle.smv_flat.specs.declared.definition_row.Row.TheVariants as rows
use Rattle.smv_flat.specs.declared.flat_moment.FlatMoment.{FlatMoment}

-- the values of a row
abbrev pub row_values : Row → List Value
row_values rows.None = []
row_values (rows.One v) = v ∷ []
row_values (rows.Many all) = all.items

-- the values of names at a moment
abbrev pub numbers_of : FlatMoment → Numbers
numbers_of m =
    numbers_with (slots_of (model_of m.flat.now).vars m.state.now m.input.now) (map row_values m.rows.now)
