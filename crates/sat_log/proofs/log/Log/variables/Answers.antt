use Rattle.std.proofs.Common.{sym, subst}
use Rattle.sat_log.specs.Checking.{AreUpTo}
use Rattle.sat_log.proofs.LogLemmas.{up_to_last}
use Rattle.sat_log.proofs.log.Log.variables.Goals as goal

pub returns-clause-within : goal.returns-clause-within
returns-clause-within c =
    let log = c.self.inside in
    rw (← c.self.view_is) (subst (λ n. AreUpTo n log.lines.items) (sym c.self.invariant.greatest) (up_to_last log.lines.items))
