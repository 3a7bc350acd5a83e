use Rattle.std.proofs.Common.{arith}
use Rattle.gates.specs.Literal.{always}
use Rattle.gates.proofs.Growth.{node-lt-span}
use Rattle.sat_link.proofs.encode.encode_all.Goals as goal

pub encode-requires : goal.encode-requires
encode-requires c =
    let below = node-lt-span c.args.ls.now c.loop-i.i always (omega arith) in
    rw c.get.ensures (omega (arith, below))
