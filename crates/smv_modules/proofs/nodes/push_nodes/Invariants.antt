use Rattle.std.proofs.Common.{◌≡◌, ◌≤◌, ◌++◌, length, drop, map}
use Rattle.std.specs.Prelude.{reverse, filter_map}
use Rattle.smv_tree.specs.Models.{part_of}
use Rattle.smv_modules.specs.Nodes.{node_in}
use Rattle.smv_modules.proofs.nodes.push_nodes.Given as goal

-- what is pushed so far are the nodes of the last items
abbrev pub invariant-loop-left : goal.invariant-loop-left
invariant-loop-left l =
    (l.left ≤ length l.items.items) × (reverse l.waiting.items ≡ filter_map (node_in l.numbers l.parent) (map part_of (drop l.left l.items.items)) ++ reverse l.initial.waiting.items)

abbrev pub decreases-loop-left : goal.decreases-loop-left
decreases-loop-left l = l.left
