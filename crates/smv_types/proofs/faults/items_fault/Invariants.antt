use Rattle.std.proofs.Common.{◌≡◌, [], map, take}
use Rattle.smv_tree.specs.Models.{part_of}
use Rattle.type_fault.specs.First.{earliest}
use Rattle.smv_types.specs.Faults.{parts_faults}
use Rattle.smv_types.proofs.faults.items_fault.Given as goal

abbrev pub invariant-loop-number : goal.invariant-loop-number
invariant-loop-number g l = l.first ≡ earliest (parts_faults (g.N.Names.told l.names) (g.N.Variables.variables l.names) [] (map part_of (take l.number l.items)))
