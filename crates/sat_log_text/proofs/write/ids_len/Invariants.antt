use Rattle.std.proofs.Common.{◌≡◌, ◌∷◌, length, min, take, decimal}
use Rattle.std.specs.List.{flat_map}
use Rattle.sat_log_text.proofs.write.ids_len.Given as goal

abbrev pub invariant-loop-id : goal.invariant-loop-id
invariant-loop-id l = l.total ≡ min (length (flat_map (λ n. 32 ∷ decimal n) (take l.id-index l.ids))) 18446744073709551615
