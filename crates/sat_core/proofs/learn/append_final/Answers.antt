use Rattle.std.proofs.Common.{sym, subst}
use Rattle.sat_log.specs.Accepted.{Accepts}
use Rattle.sat_core.proofs.Learning.{final_accepted}
use Rattle.sat_core.proofs.learn.append_final.Goals as goal

pub append-requires-clause-accepted : goal.append-requires-clause-accepted
append-requires-clause-accepted c = subst (Accepts c.args.log.now) (sym c.in_ok-line.ensures) (final_accepted c.args.log.now c.args.analysis.now.state c.requires)
