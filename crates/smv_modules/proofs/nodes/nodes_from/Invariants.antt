use Rattle.std.proofs.Common.{◌≤◌, ◌-◌, length}
use Rattle.smv_tree.specs.Models.{bodies}
use Rattle.smv_modules.specs.Nodes.{IsSearch}
use Rattle.smv_modules.proofs.nodes.nodes_from.Given as goal

abbrev pub invariant-loop-next : goal.invariant-loop-next
invariant-loop-next l = record {
  few : length l.nodes.items ≤ 100000;
  search : IsSearch (bodies l.p) l.nodes.items l.waiting.items;
}

abbrev pub decreases-loop-next : goal.decreases-loop-next
decreases-loop-next l = 100001 - length l.nodes.items
