use Rattle.std.proofs.Common.{◌≡◌, ◌+◌, ◌*◌, ◌-◌, ◌<◌, Bool, List, length, drop}
use Rattle.gates.specs.Nodes.{Grows, AddsConjunctions, AllBelong}
use Rattle.gates.specs.Valuation.{IsValuation}
use Rattle.word_bits.specs.Words.{unsigned}
use Rattle.word_bits.proofs.division.udiv_rem.Given as goal

-- the highest bits so far, divided
abbrev pub invariant-loop-i : goal.invariant-loop-i
invariant-loop-i l = record {
  quotient_width : length l.quotient ≡ l.i;
  remainder_width : length l.remainder ≡ l.i;
  spells : (values : List Bool) → IsValuation l.g values → 0 < unsigned values l.b → unsigned values (drop (length l.a - l.i) l.a) ≡ unsigned values l.quotient * unsigned values l.b + unsigned values l.remainder;
  below : (values : List Bool) → IsValuation l.g values → 0 < unsigned values l.b → unsigned values l.remainder < unsigned values l.b;
  quotient_belongs : AllBelong l.g l.quotient;
  remainder_belongs : AllBelong l.g l.remainder;
  grows : Grows l.fn.g l.g;
  conjunctions : AddsConjunctions l.fn.g l.g;
}
