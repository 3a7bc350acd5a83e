use Rattle.sat_core.proofs.Rests.{rest_added}
use Rattle.sat_core.proofs.solver.Solver.add_clauses.Goals as goal

pub invariant_of-self : goal.invariant_of-self
invariant_of-self c =
    rest_added c.add_clauses.result c.self.inside.search c.add_clauses.new.self c.args.clauses.now c.add_clauses.ensures.ok c.add_clauses.ensures.err c.self.invariant
