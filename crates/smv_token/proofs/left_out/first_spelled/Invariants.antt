use Rattle.std.proofs.Common.{◌≡◌, drop}
use Rattle.std.specs.List.{find}
use Rattle.std.specs.Str.{bytes_eq}
use Rattle.smv_token.specs.LeftOut.{text}
use Rattle.smv_token.proofs.left_out.first_spelled.Given as goal

abbrev pub invariant-loop-word : goal.invariant-loop-word
invariant-loop-word l = find (λ w. bytes_eq (text w) l.name) (drop l.word-index l.words) ≡ find (λ w. bytes_eq (text w) l.name) l.words
