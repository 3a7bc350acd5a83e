use Rattle.std.proofs.Common.{◌≡◌, [], length, drop}
use Rattle.gates.specs.Valuation.{values_after}
use Rattle.gates.proofs.bits.Bits.of.Given as goal

-- the values so far, with those of the nodes that are left, are those of all nodes
abbrev pub invariant-loop-n : goal.invariant-loop-n
invariant-loop-n l = record {
  count : length l.bits ≡ l.n;
  rest : values_after l.bits (drop l.n l.g) l.inputs ≡ values_after [] l.g l.inputs;
}
