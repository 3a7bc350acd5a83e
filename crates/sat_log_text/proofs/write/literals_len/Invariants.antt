use Rattle.std.proofs.Common.{◌≡◌, ◌∷◌, length, min, take}
use Rattle.std.specs.List.{flat_map}
use Rattle.sat_log_text.specs.LogText.{literal_word}
use Rattle.sat_log_text.proofs.write.literals_len.Given as goal

abbrev pub invariant-loop-literal : goal.invariant-loop-literal
invariant-loop-literal l = l.total ≡ min (length (flat_map (λ x. 32 ∷ literal_word x) (take l.literal-index l.literals))) 18446744073709551615
