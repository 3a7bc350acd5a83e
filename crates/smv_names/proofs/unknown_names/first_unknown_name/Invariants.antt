use Rattle.std.proofs.Common.{◌≡◌, flat_map, take}
use Rattle.smv_tree.specs.Models.{bodies}
use Rattle.smv_meaning.specs.Instances.{instances}
use Rattle.type_fault.specs.First.{earliest}
use Rattle.smv_names.specs.UnknownNames.{unknown_at}
use Rattle.smv_names.proofs.unknown_names.first_unknown_name.Given as goal

abbrev pub invariant-loop-number : goal.invariant-loop-number
invariant-loop-number l =
    l.first ≡ earliest (flat_map (unknown_at (bodies l.p)) (take l.number (instances (bodies l.p))))
