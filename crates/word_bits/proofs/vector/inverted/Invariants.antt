use Rattle.std.proofs.Common.{◌≡◌, ◌+◌, ◌^◌, ◌≤◌, Bool, List, length, take}
use Rattle.gates.specs.Literal.{span}
use Rattle.word_bits.specs.Words.{unsigned}
use Rattle.word_bits.proofs.vector.inverted.Given as goal

-- the bits so far are those that `a` has not
abbrev pub invariant-loop-i : goal.invariant-loop-i
invariant-loop-i l = record {
  width : length l.out ≡ l.i;
  number : (values : List Bool) → unsigned values l.out + unsigned values (take l.i l.a) + 1 ≡ 2 ^ l.i;
  within : span l.out ≤ span l.a;
}
