use Rattle.std.proofs.Common.{◌≡◌, ◌-◌, eqb, Bool, List, length, drop}
use Rattle.gates.specs.Nodes.{Grows, AddsConjunctions, Belongs}
use Rattle.gates.specs.Valuation.{value_of, IsValuation}
use Rattle.word_bits.specs.Words.{unsigned}
use Rattle.word_bits.proofs.division.is_zero.Given as goal

-- none of the highest bits so far is set
abbrev pub invariant-loop-i : goal.invariant-loop-i
invariant-loop-i l = record {
  meaning : (values : List Bool) → IsValuation l.g values → value_of values l.none ≡ eqb (unsigned values (drop (length l.a - l.i) l.a)) 0;
  belongs : Belongs l.g l.none;
  grows : Grows l.fn.g l.g;
  conjunctions : AddsConjunctions l.fn.g l.g;
}
