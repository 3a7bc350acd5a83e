-- Powers of two rise.
use Rattle.std.proofs.Common.{◌^◌, ◌≤◌, arith}
use Rattle.std.proofs.Math.Pow.{pow_mono}
use Rattle.smv_kinds.proofs.wide.power.Goals as goal

pub returns-clause-most : goal.returns-clause-most
returns-clause-most c = let below : 2 ^ c.args.n ≤ 2 ^ 127 = pow_mono c.requires in omega arith
