use Rattle.std.proofs.Common.{◌≡◌, map, flat_map, take}
use Rattle.smv_tree.specs.Trees.{expr_tree}
use Rattle.type_fault.specs.First.{earliest}
use Rattle.smv_typing.specs.Uses.{actual_faults}
use Rattle.smv_types.proofs.faults.actuals_fault.Given as goal

abbrev pub invariant-loop-actual : goal.invariant-loop-actual
invariant-loop-actual g l = l.first ≡ earliest (flat_map (actual_faults (g.N.Names.told l.names)) (map expr_tree (take l.actual-index l.actuals)))
