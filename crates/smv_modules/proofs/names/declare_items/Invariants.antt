use Rattle.std.proofs.Common.{◌≡◌, fold, map, flat_map, take}
use Rattle.smv_tree.specs.Models.{part_of}
use Rattle.smv_modules.specs.Declarations.{part_declarations}
use Rattle.smv_modules.specs.Scopes.{see}
use Rattle.smv_modules.proofs.names.declare_items.Given as goal

abbrev pub invariant-loop-item : goal.invariant-loop-item
invariant-loop-item l = l.scope ≡ fold see l.fn.scope (flat_map part_declarations (map part_of (take l.item-index l.item-items)))
