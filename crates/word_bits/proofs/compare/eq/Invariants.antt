use Rattle.std.proofs.Common.{◌≡◌, Bool, List, take, eqb}
use Rattle.gates.specs.Nodes.{Grows, AddsConjunctions, Belongs}
use Rattle.gates.specs.Valuation.{value_of, IsValuation}
use Rattle.word_bits.specs.Words.{unsigned}
use Rattle.word_bits.proofs.compare.eq.Given as goal

-- whether the bits so far are equal
abbrev pub invariant-loop-i : goal.invariant-loop-i
invariant-loop-i l = record {
  meaning : (values : List Bool) → IsValuation l.g values → value_of values l.same ≡ eqb (unsigned values (take l.i l.a)) (unsigned values (take l.i l.b));
  belongs : Belongs l.g l.same;
  grows : Grows l.fn.g l.g;
  conjunctions : AddsConjunctions l.fn.g l.g;
}
