use Rattle.smv_names.specs.Declaring.{AreEntered}
use Rattle.smv_names.proofs.children.children_of.Given as goal

abbrev pub invariant-loop-number : goal.invariant-loop-number
invariant-loop-number l = AreEntered l.scopes l.instances l.number l.children.entries
