use Rattle.std.proofs.Common.{◌≡◌, Bool, List, length, take, cond}
use Rattle.gates.specs.Nodes.{Grows, AddsConjunctions, AllBelong}
use Rattle.gates.specs.Valuation.{value_of, values_of, IsValuation}
use Rattle.word_bits.proofs.choice.mux.Given as goal

-- the bits so far are those of the chosen vector
abbrev pub invariant-loop-i : goal.invariant-loop-i
invariant-loop-i l = record {
  width : length l.out ≡ l.i;
  bits : (values : List Bool) → IsValuation l.g values → values_of values l.out ≡ cond (value_of values l.c) (values_of values (take l.i l.a)) (values_of values (take l.i l.b));
  belongs : AllBelong l.g l.out;
  grows : Grows l.fn.g l.g;
  conjunctions : AddsConjunctions l.fn.g l.g;
}
