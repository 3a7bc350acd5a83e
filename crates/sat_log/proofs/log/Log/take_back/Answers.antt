use Rattle.std.proofs.Common.{◌≡◌, sym, subst, take}
use Rattle.sat_log.specs.Checking.{last_variable}
use Rattle.sat_log.proofs.LogLemmas.{keeps_front}
use Rattle.sat_log.proofs.log.Log.take_back.Goals as goal

pub invariant_of-self : goal.invariant_of-self
invariant_of-self c =
    let log = c.self.inside in
    let greatest = subst (λ lines. c.args.last ≡ last_variable (take c.args.count lines)) (sym c.self.view_is) c.requires in
    rw c.truncate.ensures.items (keeps_front log.lines.items log.marks log.last c.args.last c.args.count c.self.invariant greatest)
