use Rattle.std.proofs.lemmas.Bool.{false_from_ne_true}
use Rattle.std.proofs.lemmas.Result.{on_ok_weaker}
use Rattle.sat_log_text.proofs.PageLaws.{may_follow-sound, kind_named}
use Rattle.sat_log_text.proofs.read.extend.Goals as goal

pub returns-clause-taken : goal.returns-clause-taken
returns-clause-taken c =
    on_ok_weaker c.extend.result (λ h. (kind_named c.args.line.kind c.args.log.now c.args.line h).1) c.extend.ensures.accepted

pub returns-clause-refused : goal.returns-clause-refused
returns-clause-refused c e =
    false_from_ne_true _ (λ t. c.extend.ensures.refused e (may_follow-sound c.args.line.kind c.args.log.now c.args.line t))
