use Rattle.std.proofs.Common.{◌≡◌, ◌+◌, ◌^◌, Bool, List, take, leb}
use Rattle.gates.specs.Nodes.{Grows, AddsConjunctions, Belongs}
use Rattle.gates.specs.Valuation.{value_of, IsValuation}
use Rattle.word_bits.specs.Number.{digit}
use Rattle.word_bits.specs.Words.{unsigned}
use Rattle.word_bits.proofs.compare.carry_out.Given as goal

-- the carry out of the bits so far
abbrev pub invariant-loop-i : goal.invariant-loop-i
invariant-loop-i l = record {
  meaning : (values : List Bool) → IsValuation l.g values → value_of values l.through ≡ leb (2 ^ l.i) (unsigned values (take l.i l.a) + unsigned values (take l.i l.b) + digit (value_of values l.fn.carry));
  belongs : Belongs l.g l.through;
  grows : Grows l.fn.g l.g;
  conjunctions : AddsConjunctions l.fn.g l.g;
}
