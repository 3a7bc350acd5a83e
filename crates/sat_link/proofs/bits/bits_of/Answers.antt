use Rattle.std.proofs.Common.{◌≡◌, length, take, ◌∙◌, ap, arith}
use Rattle.sat_link.proofs.Valued.{first_values}
use Rattle.sat_link.proofs.bits.bits_of.Goals as goal

pub returns : goal.returns
returns c =
    let g = c.args.g.now in
    let values = c.args.values.now in
    let all : c.loop-n.n ≡ length g = omega (arith, c.nodes-nodes.ensures.count) in
    first_values g values c.from_vec.result c.of-2.result c.nodes-nodes.ensures.well_formed c.requires (c.from_vec.ensures ∙ c.loop-n.invariant ∙ ap (λ n. take n values) all)
    c.of-2.ensures.valuation c.of-2.ensures.one_each c.of-2.ensures.inputs
