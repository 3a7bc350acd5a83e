use Rattle.std.proofs.Common.{ℕ, subst}
use Rattle.std.specs.Prelude.{Some, None}
use Rattle.smv_graph.specs.Choices.{LeadsAt, IsLeast}
use Rattle.smv_graph.proofs.FirstWalks.{nearest_walk, nearest_none_cycle}
use Rattle.smv_graph.proofs.graph.Graph.first_cycle.Goals as goal

pub returns-in_default : goal.returns-in_default
returns-in_default c =
    let entries = c.in_ok-distances.distances.entries in
    nearest_none_cycle c.args.self.now c.args.order c.args.start entries c.in_ok-distances.ensures
    (subst (λ r. IsLeast (λ d. (b : ℕ) × LeadsAt entries r d b) None) c.row.ensures c.in_default.ensures)

pub walk_back-requires-clause-there : goal.walk_back-requires-clause-there
walk_back-requires-clause-there c =
    let entries = c.in_ok-distances.distances.entries in
    (nearest_walk c.args.self.now c.args.order c.args.start entries c.in_ok-distances.ensures c.in-Some.count
    (subst (λ r. IsLeast (λ d. (b : ℕ) × LeadsAt entries r d b) (Some c.in-Some.count)) c.row.ensures c.in-Some.ensures)).0

pub walk_back-requires-clause-least : goal.walk_back-requires-clause-least
walk_back-requires-clause-least c =
    let entries = c.in_ok-distances.distances.entries in
    (nearest_walk c.args.self.now c.args.order c.args.start entries c.in_ok-distances.ensures c.in-Some.count
    (subst (λ r. IsLeast (λ d. (b : ℕ) × LeadsAt entries r d b) (Some c.in-Some.count)) c.row.ensures c.in-Some.ensures)).1
