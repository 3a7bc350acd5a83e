use Rattle.std.proofs.Common.{◌≡◌, ◌*◌, ◌%◌, ◌^◌, Bool, List, length, take}
use Rattle.gates.specs.Nodes.{Grows, AddsConjunctions, AllBelong}
use Rattle.gates.specs.Valuation.{IsValuation}
use Rattle.word_bits.specs.Words.{unsigned}
use Rattle.word_bits.proofs.product.mul.Given as goal

-- the product with the bits so far
abbrev pub invariant-loop-i : goal.invariant-loop-i
invariant-loop-i l = record {
  width : length l.product ≡ length l.a;
  spells : (values : List Bool) → IsValuation l.g values → unsigned values l.product ≡ (unsigned values l.a * unsigned values (take l.i l.b)) % 2 ^ length l.a;
  belongs : AllBelong l.g l.product;
  grows : Grows l.fn.g l.g;
  conjunctions : AddsConjunctions l.fn.g l.g;
}
