-- The ends are numbers of 64 bits, so they come back from their bits.
use Rattle.std.proofs.Common.{to_z, of_z, ◌∙◌, ◌+ℤ◌, pos, arith}
use Rattle.std.specs.Int.{w64}
use Rattle.std.proofs.lemmas.Int.{to_z-of_z, ints}
use Rattle.smv_meaning.specs.Operators.{span_from, span_length}
use Rattle.smv_flat.proofs.Spans.{range_step, range_end}
use Rattle.smv_flat.proofs.copies.rising.Goals as goal

pub loop-n-preserved : goal.loop-n-preserved
loop-n-preserved c =
    let high = to_z-of_z w64 c.args.high c.ranges.high in
    let n = to_z w64 c.loop-n.n-bits in
    (grind (arith, ints, high), range_step _ _ n (to_z w64 (of_z w64 (n +ℤ pos 1))) _ _ (omega (arith, ints, c.loop-n-test.true, c.ranges.high)) c.loop-n.invariant.1 c.in_ok-push_first.ensures)

pub returns : goal.returns
returns c =
    let low = to_z-of_z w64 c.args.low c.ranges.low in
    let high = to_z-of_z w64 c.args.high c.ranges.high in
    range_end _ _ _ _ _ c.loop-n.invariant.0 c.loop-n-test.false c.loop-n.invariant.1 c.in_ok-push.ensures.items
    ∙ (λ i. span_from (low i) (span_length (low i) (high i)))
