use Rattle.smv_graph.proofs.Queues.{has_tells}
use Rattle.smv_modules.proofs.cycles.is_contained.Goals as goal

pub returns-then-contains : goal.returns-then-contains
returns-then-contains c =
    let tells = has_tells c.args.settled.now.keys c.args.number c.contains.result c.contains.ensures in
    let there = tells.0 c.if-contains.true in
    (λ h. absurd (cc), λ x. absurd (c.requires c.args.number there x.1))

pub returns-then-contains-2 : goal.returns-then-contains-2
returns-then-contains-2 c =
    let tells = has_tells c.args.reached.now.keys c.args.number c.contains-2.result c.contains-2.ensures in
    let there = tells.0 c.if-contains-2.true in
    (λ h. (there, c.in_ok-itself.ensures.0 h), λ x. c.in_ok-itself.ensures.1 x.1)
