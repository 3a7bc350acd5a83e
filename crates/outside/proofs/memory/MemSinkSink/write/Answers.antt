use Rattle.std.proofs.Common.{◌∙◌, ap, refl}
use Rattle.outside.specs.Told.{one_more}
use Rattle.outside.proofs.MemoryLemmas.{fails_to_take, fails_to_take_at}
use Rattle.outside.proofs.memory.MemSinkSink.write.Goals as goal

pub returns-in_err-make-clause-takes : goal.returns-in_err-make-clause-takes
returns-in_err-make-clause-takes c =
    rw (← c.self.view_is) (fails_to_take_at c.args.bytes.now _ _ _ c.from_residual.result c.from_residual.ensures.1 refl (ap (λ calls. calls.faults) c.in_err-make.ensures.counted))

pub returns-then-not-is_empty-clause-takes : goal.returns-then-not-is_empty-clause-takes
returns-then-not-is_empty-clause-takes c =
    rw (← c.self.view_is) (fails_to_take c.args.bytes.now _ _ _ refl (ap (λ calls. calls.faults) c.fail.ensures.counted ∙ ap (λ calls. one_more calls.faults) c.in_ok-make.ensures.counted))
