use Rattle.std.proofs.Common.{◌≡◌, map, flat_map, take}
use Rattle.smv_tree.specs.Models.{part_of}
use Rattle.type_fault.specs.First.{earliest}
use Rattle.smv_names.specs.UnknownNames.{is_known_by, is_assignable_by, unknown_in_part}
use Rattle.smv_names.proofs.unknown_names.unknown_in_items.Given as goal

abbrev pub invariant-loop-item : goal.invariant-loop-item
invariant-loop-item l =
    l.first ≡ earliest (flat_map (unknown_in_part (is_known_by l.resolver l.number) (is_assignable_by l.resolver l.number)) (map part_of (take l.item-index l.items)))
