use Rattle.smv_graph.proofs.graph.Graph.contains_itself.Goals as goal

pub returns : goal.returns
returns c =
    let reached = c.in_ok-reached.ensures c.args.number in
    (λ h. reached.0 (c.has.ensures.0 h), λ r. c.has.ensures.1 (reached.1 r))
