use Rattle.std.proofs.Common.{◌≡◌, ◌-◌, ◌≤◌, IfSome, drop, length}
use Rattle.smv_formula_reader.specs.Flags.{closers, group_flags}
use Rattle.smv_formula_reader.proofs.groups.group_flags.Given as goal

abbrev pub invariant-tokens : goal.invariant-tokens
invariant-tokens l = record {
  flags : l.flags.items ≡ group_flags (drop l.index l.tokens);
  closers : l.closers ≡ closers (drop l.index l.tokens);
  within : l.index ≤ length l.tokens;
  small : IfSome l.closers (λ n. n ≤ length l.tokens - l.index);
}

abbrev pub decreases-tokens : goal.decreases-tokens
decreases-tokens l = l.index
