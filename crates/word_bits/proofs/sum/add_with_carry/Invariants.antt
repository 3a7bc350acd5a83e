use Rattle.std.proofs.Common.{◌≡◌, ◌+◌, ◌*◌, ◌^◌, Bool, List, length, take}
use Rattle.gates.specs.Nodes.{Grows, AddsConjunctions, Belongs, AllBelong}
use Rattle.gates.specs.Valuation.{value_of, IsValuation}
use Rattle.word_bits.specs.Number.{digit}
use Rattle.word_bits.specs.Words.{unsigned}
use Rattle.word_bits.proofs.sum.add_with_carry.Given as goal

-- the sum of the bits so far, with the carry out of them
abbrev pub invariant-loop-i : goal.invariant-loop-i
invariant-loop-i l = record {
  width : length l.sum ≡ l.i;
  spells : (values : List Bool) → IsValuation l.g values → unsigned values l.sum + 2 ^ l.i * digit (value_of values l.through) ≡ unsigned values (take l.i l.a) + unsigned values (take l.i l.b) + digit (value_of values l.fn.carry);
  belongs : AllBelong l.g l.sum;
  carry_belongs : Belongs l.g l.through;
  grows : Grows l.fn.g l.g;
  conjunctions : AddsConjunctions l.fn.g l.g;
}
