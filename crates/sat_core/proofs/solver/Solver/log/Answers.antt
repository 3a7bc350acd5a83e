use Rattle.std.proofs.Common.{[], subst}
use Rattle.sat_core.specs.Contents.{Contents}
use Rattle.sat_core.specs.Gained.{AreLearned}
use Rattle.sat_core.proofs.Rests.{all_fresh_from}
use Rattle.sat_core.proofs.solver.Solver.log.Goals as goal

pub returns-clause-fresh : goal.returns-clause-fresh
returns-clause-fresh c =
    all_fresh_from c.learned_lines_are_fresh.ensures c.args.self.now.log (subst (λ (v : Contents). AreLearned [] v.log) c.self.view_is c.self.invariant.learned)
