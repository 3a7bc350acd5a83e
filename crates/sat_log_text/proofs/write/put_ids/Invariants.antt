use Rattle.std.proofs.Common.{◌∷◌, decimal, take}
use Rattle.std.specs.List.{flat_map}
use Rattle.outside.proofs.WriteLemmas.{HasWritten}
use Rattle.sat_log_text.proofs.write.put_ids.Given as goal

-- the ids so far are written
abbrev pub invariant-loop-id : goal.invariant-loop-id
invariant-loop-id g l = HasWritten (flat_map (λ n. 32 ∷ decimal n) (take l.id-index l.ids)) (g.S.Sink.told l.initial.out) (g.S.Sink.told l.out)
