use Rattle.std.proofs.Common.{sym, subst, arith}
use Rattle.std.specs.Prelude.{Contains, Some}
use Rattle.std.proofs.lemmas.List.{take_all}
use Rattle.smv_graph.proofs.OffCycles.{within_more}
use Rattle.smv_graph.proofs.settled.stays_within.Goals as goal

pub loop-target-preserved : goal.loop-target-preserved
loop-target-preserved c =
    within_more c.args.row.now c.loop-target.target-index c.args.some.now.keys c.loop-target-test.true c.loop-target.invariant (c.is_within.ensures c.if-not-is_within.false)

pub returns : goal.returns
returns c t b h =
    let row = c.args.row.now in
    let i = c.loop-target.target-index in
    c.loop-target.invariant b (subst (λ r. Contains r (Some b)) (sym (take_all i row (omega (arith, c.loop-target-test.false)))) h)
