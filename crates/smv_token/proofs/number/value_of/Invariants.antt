use Rattle.std.proofs.Common.{◌≡◌, ◌≤◌, drop}
use Rattle.smv_token.specs.Numbers.{value_after}
use Rattle.smv_token.proofs.number.value_of.Given as goal

abbrev pub invariant-loop-byte : goal.invariant-loop-byte
invariant-loop-byte l = record {
  value : value_after l.radix l.value (drop l.byte-index l.digits) ≡ value_after l.radix 0 l.digits;
  small : l.value ≤ l.limit;
}
