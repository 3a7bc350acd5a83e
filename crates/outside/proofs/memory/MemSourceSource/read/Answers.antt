use Rattle.std.proofs.Common.{ap, refl}
use Rattle.outside.proofs.MemoryLemmas.{fails_to_fill}
use Rattle.outside.proofs.memory.MemSourceSource.read.Goals as goal

pub returns-in_err-make-clause-fills : goal.returns-in_err-make-clause-fills
returns-in_err-make-clause-fills c =
    rw (← c.self.view_is) (fails_to_fill c.args.buf.now _ _ _ c.from_residual.result c.from_residual.ensures.1 refl (ap (λ calls. calls.faults) c.in_err-make.ensures.counted))
