use Rattle.std.proofs.Common.{sym, ◌∙◌}
use Rattle.gates.specs.declared.node.Node.TheVariants.{Input}
use Rattle.gates.proofs.Growth.{WellFormed-push}
use Rattle.gates.proofs.Pairs.{pairs_from-push_input}
use Rattle.gates.proofs.graph.Gates.input.Goals as goal

pub invariant_of-self-2 : goal.invariant_of-self-2
invariant_of-self-2 c =
    let n = c.self.inside.nodes.items in
    rw c.in_ok-push.ensures.items
    (WellFormed-push n Input c.self.invariant.0 c.self.invariant.0.constant, c.self.invariant.1 ∙ sym (pairs_from-push_input 0 n))
