use Rattle.std.proofs.Common.{◌≡◌, length, map, take}
use Rattle.smv_tree.specs.Trees.{expr_tree}
use Rattle.smv_names.specs.Declaring.{AreGiven}
use Rattle.smv_names.proofs.resolver.Resolver.all_given.Given as goal

abbrev pub invariant-loop-parameter : goal.invariant-loop-parameter
invariant-loop-parameter l =
    (length l.targets.items ≡ l.parameter) × AreGiven l.self l.around l.fn.number (map expr_tree (take l.parameter l.actuals)) l.targets.items
