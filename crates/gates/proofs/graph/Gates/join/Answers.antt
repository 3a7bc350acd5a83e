use Rattle.std.proofs.Common.{◌≡◌, length, ◌∙◌, arith}
use Rattle.gates.proofs.Joins.{joined_invariant}
use Rattle.gates.proofs.graph.Gates.join.Goals as goal

pub invariant_of-self-2 : goal.invariant_of-self-2
invariant_of-self-2 c =
    let len : c.len.result ≡ length c.self.inside.nodes.items = omega (arith, c.len.ensures, c.self.inside.nodes.ok.0) in
    let pushed = rw c.unwrap.ensures at c.push.ensures.items in
    joined_invariant c.self.inside.nodes.items c.push.new.self.items c.args.a c.args.b _ _ c.positive-joined.result c.self.inside.pairs c.insert.new.self.entries
    c.self.invariant.0 c.self.invariant.1 (rw c.self.view_is c.requires.first) (rw c.self.view_is c.requires.second) (rw c.self.view_is c.requires.absent)
    c.in_order-first.ensures.first c.in_order-first.ensures.second
    (λ i. record { node = (c.positive-joined.ensures.node ∙ len) i; negative = c.positive-joined.ensures.positive i })
    (rw c.in_ok-reserve.ensures.items at pushed)
    c.in_ok-insert.ensures.entries
