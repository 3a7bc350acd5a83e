use Rattle.std.proofs.Common.{map, take}
use Rattle.std.specs.List.{AllZip}
use Rattle.smv_tree.specs.Models.{body_of}
use Rattle.smv_names.specs.Ready.{AreNamesOf}
use Rattle.smv_names.proofs.scopes.all_names.Given as goal

abbrev pub invariant-loop-one : goal.invariant-loop-one
invariant-loop-one l = AllZip AreNamesOf (map body_of (take l.one-index l.one-items)) l.all.items
