use Rattle.std.proofs.Common.{[], sym, subst}
use Rattle.sat_log.specs.Learned.{AllFresh}
use Rattle.sat_core.specs.Gained.{AreLearned}
use Rattle.sat_link.specs.Contents.{Contents}
use Rattle.sat_link.specs.Definitional.{IsDefinitional}
use Rattle.sat_link.proofs.Defining.{definitional}
use Rattle.sat_link.proofs.kept.Kept.log.Goals as goal

pub returns-clause-definitional : goal.returns-clause-definitional
returns-clause-definitional c =
    let k = c.self.inside in
    rw (← c.self.view_is) (subst (IsDefinitional k.nodes.items) (sym c.self.invariant.clauses) (definitional k.nodes.items))

pub returns-clause-learned : goal.returns-clause-learned
returns-clause-learned c = subst (λ (k : Contents). AreLearned [] k.log) c.self.view_is c.log.ensures.learned

pub returns-clause-fresh : goal.returns-clause-fresh
returns-clause-fresh c = subst (λ (k : Contents). AllFresh [] k.log) c.self.view_is c.log.ensures.fresh
