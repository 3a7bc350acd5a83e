use Rattle.std.proofs.Common.{sym, ◌∙◌}
use Rattle.sat_log.proofs.Decided.{accepts_sound, accepts_complete}
use Rattle.sat_log.proofs.check.accepts_line.Goals as goal

pub returns-clause-answer : goal.returns-clause-answer
returns-clause-answer c =
    (λ e. accepts_sound _ _ (sym c.follows-accepted.ensures.value ∙ e), λ a. c.follows-accepted.ensures.value ∙ accepts_complete _ _ a)
