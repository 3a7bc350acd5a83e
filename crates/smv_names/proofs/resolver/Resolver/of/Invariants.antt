use Rattle.smv_tree.specs.Models.{bodies}
use Rattle.smv_names.specs.Ready.{IsReadyBelow}
use Rattle.smv_names.proofs.resolver.Resolver.of.Given as goal

abbrev pub invariant-loop-number : goal.invariant-loop-number
invariant-loop-number l = IsReadyBelow (bodies l.p) l.number l.resolver
