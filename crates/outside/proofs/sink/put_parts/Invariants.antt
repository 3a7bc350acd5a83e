use Rattle.std.proofs.Common.{take}
use Rattle.std.specs.Prelude.{flat_map}
use Rattle.outside.proofs.WriteLemmas.{HasWritten}
use Rattle.outside.proofs.sink.put_parts.Given as goal

-- the parts so far are written
abbrev pub invariant-loop-part : goal.invariant-loop-part
invariant-loop-part g l = HasWritten (flat_map (λ p. p.now) (take l.part-index l.parts)) (g.S.Sink.told l.initial.out) (g.S.Sink.told l.out)
