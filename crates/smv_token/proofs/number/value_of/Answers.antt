use Rattle.smv_token.proofs.Values.{stops_at}
use Rattle.smv_token.proofs.number.value_of.Goals as goal

pub returns-in_err-value-clause-value : goal.returns-in_err-value-clause-value
returns-in_err-value-clause-value c =
    rw c.from_residual.ensures (stops_at _ _ _ _ _ _ c.requires c.loop-byte-test.true c.if-byte-ne95.true c.digit_of.ensures.value c.in_err-value.ensures c.loop-byte.invariant.value)
