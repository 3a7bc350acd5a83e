use Rattle.std.proofs.Common.{◌≡◌, nat_eq, drop}
use Rattle.std.specs.List.{find, starts_with}
use Rattle.smv_token.specs.Marks.{text}
use Rattle.smv_token.proofs.mark.first_before.Given as goal

abbrev pub invariant-loop-mark : goal.invariant-loop-mark
invariant-loop-mark l = find (λ m. starts_with nat_eq l.bytes (text m)) (drop l.mark-index l.marks) ≡ find (λ m. starts_with nat_eq l.bytes (text m)) l.marks
