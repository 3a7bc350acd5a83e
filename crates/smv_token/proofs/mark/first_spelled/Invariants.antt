use Rattle.std.proofs.Common.{◌≡◌, drop}
use Rattle.std.specs.List.{find}
use Rattle.std.specs.Str.{bytes_eq}
use Rattle.smv_token.specs.Marks.{text}
use Rattle.smv_token.proofs.mark.first_spelled.Given as goal

abbrev pub invariant-loop-mark : goal.invariant-loop-mark
invariant-loop-mark l = find (λ m. bytes_eq (text m) l.name) (drop l.mark-index l.marks) ≡ find (λ m. bytes_eq (text m) l.name) l.marks
