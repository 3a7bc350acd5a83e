use Rattle.std.proofs.Common.{◌≡◌, length}
use Rattle.gates.specs.Nodes.{Grows, AllBelong}
use Rattle.solver_tests.proofs.circuits.inputs.Given as goal

-- as many inputs as there were rounds
abbrev pub invariant-loop : goal.invariant-loop
invariant-loop l = record {
  width : length l.bits ≡ l.counter;
  belongs : AllBelong l.g l.bits;
  grows : Grows l.fn.g l.g;
}
