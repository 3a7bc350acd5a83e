use Rattle.std.proofs.Common.{arith}
use Rattle.std.proofs.lemmas.Int.{to_z-of_z}
use Rattle.smv_flat.proofs.Spans.{one_more}
use Rattle.smv_flat.proofs.copies.push_first.Goals as goal

pub returns : goal.returns
returns c = one_more c.args.n c.args.high _ _ c.ranges.n c.ranges.high c.requires (grind (arith, to_z-of_z, c.in_ok-push.ensures.items, c.ranges.n))
