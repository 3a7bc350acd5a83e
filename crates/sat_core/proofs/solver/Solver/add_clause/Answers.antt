use Rattle.std.proofs.Common.{[], ◌∷◌}
use Rattle.sat_core.proofs.Rests.{rest_added}
use Rattle.sat_core.proofs.solver.Solver.add_clause.Goals as goal

pub invariant_of-self : goal.invariant_of-self
invariant_of-self c =
    rest_added c.add_clause.result c.self.inside.search c.add_clause.new.self (c.args.lits.now ∷ []) c.add_clause.ensures.ok c.add_clause.ensures.err c.self.invariant
