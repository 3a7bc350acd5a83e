use Rattle.std.proofs.Common.{◌∷◌, take}
use Rattle.std.specs.List.{flat_map}
use Rattle.outside.proofs.WriteLemmas.{HasWritten}
use Rattle.sat_log_text.specs.LogText.{literal_word}
use Rattle.sat_log_text.proofs.write.put_literals.Given as goal

-- the literals so far are written
abbrev pub invariant-loop-literal : goal.invariant-loop-literal
invariant-loop-literal g l = HasWritten (flat_map (λ x. 32 ∷ literal_word x) (take l.literal-index l.literals)) (g.S.Sink.told l.initial.out) (g.S.Sink.told l.out)
