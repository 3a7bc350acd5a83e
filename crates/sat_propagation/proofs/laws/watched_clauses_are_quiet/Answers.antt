use Rattle.sat_propagation.proofs.Quiet.{watched_quiet}
use Rattle.sat_propagation.proofs.laws.watched_clauses_are_quiet.Goals as goal

pub returns : goal.returns
returns c = watched_quiet
