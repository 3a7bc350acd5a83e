use Rattle.std.proofs.Common.{◌≡◌, map, flat_map, take}
use Rattle.smv_tree.specs.Models.{body_of}
use Rattle.type_fault.specs.First.{earliest}
use Rattle.smv_modules.specs.Declarations.{doubled_in}
use Rattle.smv_modules.proofs.names.doubled_within.Given as goal

abbrev pub invariant-loop-one : goal.invariant-loop-one
invariant-loop-one l = l.first ≡ earliest (flat_map doubled_in (map body_of (take l.one-index l.one-items)))
