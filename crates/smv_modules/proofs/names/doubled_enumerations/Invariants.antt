use Rattle.std.proofs.Common.{◌≡◌, map, flat_map, take}
use Rattle.smv_tree.specs.Models.{part_of}
use Rattle.type_fault.specs.First.{earliest}
use Rattle.smv_modules.specs.Declarations.{doubled, enumeration_declarations}
use Rattle.smv_modules.proofs.names.doubled_enumerations.Given as goal

abbrev pub invariant-loop-item : goal.invariant-loop-item
invariant-loop-item l = l.first ≡ earliest (flat_map (λ part. doubled (enumeration_declarations part)) (map part_of (take l.item-index l.item-items)))
