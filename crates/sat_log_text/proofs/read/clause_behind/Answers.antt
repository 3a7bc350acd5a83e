use Rattle.sat_log_text.proofs.ReadLemmas.{behind_more}
use Rattle.sat_log_text.proofs.read.clause_behind.Goals as goal

pub returns-then-taken-rest : goal.returns-then-taken-rest
returns-then-taken-rest c =
    behind_more c.args.line c.args.kind c.args.rest.now c.split_at.result.1.now _ _ _ _ c.in_ok-lits.ensures.0 c.split_at.ensures.back c.in_ok-hints.ensures.0 c.if-taken-rest.true
