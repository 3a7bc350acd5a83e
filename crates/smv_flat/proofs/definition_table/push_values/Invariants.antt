use Rattle.std.proofs.Common.{◌≡◌, drop, map}
use Rattle.smv_flat.specs.FlatModels.{model_of, definition_of}
use Rattle.smv_flat.specs.Slots.{slots_of}
use Rattle.smv_flat.specs.Moments.{fitting_defs}
use Rattle.smv_flat.specs.Tables.{row_values}
use Rattle.smv_flat.proofs.definition_table.push_values.Given as goal

-- the definitions that are left, behind those that are there
abbrev pub invariant-loop-def : goal.invariant-loop-def
invariant-loop-def l =
    fitting_defs (slots_of (model_of l.flat).vars l.state l.input) (map row_values l.initial.rows.items) (model_of l.flat).defs
    ≡ fitting_defs (slots_of (model_of l.flat).vars l.state l.input) (map row_values l.rows.items) (map definition_of (drop l.def-index l.flat.defs.items))
