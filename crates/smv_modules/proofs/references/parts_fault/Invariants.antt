use Rattle.std.proofs.Common.{◌≡◌, map, flat_map, take}
use Rattle.smv_tree.specs.Models.{bodies, part_of}
use Rattle.type_fault.specs.First.{earliest}
use Rattle.smv_modules.specs.References.{part_faults}
use Rattle.smv_modules.proofs.references.parts_fault.Given as goal

abbrev pub invariant-loop-item : goal.invariant-loop-item
invariant-loop-item l = l.first ≡ earliest (flat_map (part_faults (bodies l.p)) (map part_of (take l.item-index l.item-items)))
