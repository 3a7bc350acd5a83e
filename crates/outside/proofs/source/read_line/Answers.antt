use Rattle.std.proofs.Common.{arith, ◌∙◌}
use Rattle.std.proofs.lemmas.Result.{err_from_is_err_and}
use Rattle.outside.proofs.ToldLemmas.{taken_past, taken_front}
use Rattle.outside.proofs.source.read_line.Goals as goal

pub returns-then-len-limit : goal.returns-then-len-limit
returns-then-len-limit g c = record {
  reads = taken_past _ _ _ c.loop-next.line c.in-Some.byte c.args.limit c.loop-next.invariant.one_line c.if-byte-eq10.false (omega arith) c.loop-next.invariant.taken (rw c.in-Some.is at c.in-Ok.ensures.byte);
  cause = c.in-Ok.ensures.quiet ∙ c.loop-next.invariant.quiet;
}

pub returns-in_err-push : goal.returns-in_err-push
returns-in_err-push g c =
    let p = err_from_is_err_and c.from_residual.result c.from_residual.ensures.1 in record {
      reads = rw (p.1, p.2) (taken_front _ _ _ c.loop-next.line c.in-Some.byte c.args.limit c.loop-next.invariant.one_line c.if-byte-eq10.false (omega (arith, c.loop-next.invariant.within)) c.loop-next.invariant.taken (rw c.in-Some.is at c.in-Ok.ensures.byte));
      cause = rw (p.1, p.2) (c.in-Ok.ensures.quiet ∙ c.loop-next.invariant.quiet);
    }
