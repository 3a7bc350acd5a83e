use Rattle.std.proofs.Common.{◌≡◌, ◌*◌, ◌-◌, ◌%◌, ◌^◌, ◌≤◌, Bool, List, length, take}
use Rattle.gates.specs.Nodes.{Grows, AddsConjunctions, AllBelong}
use Rattle.gates.specs.Valuation.{IsValuation}
use Rattle.word_bits.specs.Words.{unsigned}
use Rattle.word_bits.proofs.shift.shl.Given as goal

-- the vector, moved by the bits of the amount so far
abbrev pub invariant-loop-i : goal.invariant-loop-i
invariant-loop-i l = record {
  within : l.i ≤ length l.by;
  distance : l.distance ≡ 2 ^ l.i;
  width : length l.shifted ≡ length l.a;
  spells : (values : List Bool) → IsValuation l.g values → unsigned values l.shifted ≡ (unsigned values l.a * 2 ^ unsigned values (take l.i l.by)) % 2 ^ length l.a;
  belongs : AllBelong l.g l.shifted;
  grows : Grows l.fn.g l.g;
  conjunctions : AddsConjunctions l.fn.g l.g;
}

abbrev pub decreases-loop-i : goal.decreases-loop-i
decreases-loop-i l = length l.by - l.i
