use Rattle.std.proofs.Common.{take}
use Rattle.smv_graph.proofs.Numbering.{AreNumbered}
use Rattle.smv_names.proofs.parameters.parameter_numbers.Given as goal

abbrev pub invariant-loop-i : goal.invariant-loop-i
invariant-loop-i l = AreNumbered (λ x. x.name) l.numbers (take l.i l.param-items)
