use Rattle.std.proofs.Common.{◌≡◌, List, [], ap, sym, subst}
use Rattle.sat_log.specs.Literal.{Literal}
use Rattle.sat_core.specs.Assignment.{HasNoSolution}
use Rattle.sat_core.specs.Verdicts.{IfNo}
use Rattle.sat_core.specs.Contents.{Contents}
use Rattle.sat_core.specs.Gained.{AreLearned}
use Rattle.sat_core.proofs.Rests.{learned_longer}
use Rattle.sat_core.proofs.Runs.{if_no, gains_same}
use Rattle.sat_core.proofs.solver.Solver.solve.Goals as goal

pub invariant_of-self : goal.invariant_of-self
invariant_of-self c =
    let g = c.run-verdict.ensures.gains in
    record {
      level = c.reset.ensures.level;
      learned = subst (AreLearned []) (sym c.reset.ensures.log) (learned_longer c.self.inside.search.log c.run-verdict.new.self.log c.self.invariant.learned g.longer g.learned);
    }

pub returns-clause-refuted : goal.returns-clause-refuted
returns-clause-refuted c =
    if_no c.run-verdict.result c.run-verdict.new.self.log c.reset.new.self.log c.args.want.now c.reset.ensures.log (subst (λ (w : List Literal). IfNo c.run-verdict.result (λ _. HasNoSolution c.run-verdict.new.self.log w)) c.as_slice.ensures c.run-verdict.ensures.refuted)

pub returns-clause-gains : goal.returns-clause-gains
returns-clause-gains c =
    let r = c.run-verdict.result in
    let n = c.run-verdict.new.self.variables in
    let log = c.run-verdict.new.self.log in
    let start : c.self.inside.search.log ≡ c.args.self.now.log = ap (λ (v : Contents). v.log) c.self.view_is in
    gains_same r n c.reset.new.self.variables c.args.budget c.args.want.now c.args.self.now.log log c.reset.new.self.log c.reset.ensures.log c.reset.ensures.variables
    (rw (← start, ← c.as_slice.ensures) c.run-verdict.ensures.gains)
