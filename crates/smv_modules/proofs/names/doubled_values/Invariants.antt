use Rattle.std.proofs.Common.{◌≡◌, fold, flat_map, take}
use Rattle.smv_modules.specs.Declarations.{value_declarations}
use Rattle.smv_modules.specs.Scopes.{nothing_seen, see}
use Rattle.smv_modules.proofs.names.doubled_values.Given as goal

abbrev pub invariant-loop-value : goal.invariant-loop-value
invariant-loop-value l = l.scope ≡ fold see nothing_seen (flat_map (value_declarations l.place) (take l.value-index l.values))
