use Rattle.std.proofs.Common.{take}
use Rattle.std.specs.List.{AllZip}
use Rattle.smv_tree.specs.Models.{bodies}
use Rattle.smv_meaning.specs.Instances.{instances}
use Rattle.smv_modules.proofs.Rows.{IsShallowRow}
use Rattle.smv_modules.proofs.instances.Instances.of.Given as goal

abbrev pub invariant-loop-node : goal.invariant-loop-node
invariant-loop-node l = AllZip (IsShallowRow (bodies l.p)) (take l.node-index (instances (bodies l.p))) l.list.items
