use Rattle.std.proofs.Common.{◌∙◌}
use Rattle.sat_core.proofs.search.Search.attach.Goals as goal

pub loop-self-preserved : goal.loop-self-preserved
loop-self-preserved c =
    let kept = c.loop-self.invariant in
    record {
      level = c.attach_next.ensures.level;
      asked = (λ want a. c.attach_next.ensures.asked want (kept.asked want a));
      log = c.attach_next.ensures.log ∙ kept.log;
      variables = c.attach_next.ensures.variables ∙ kept.variables;
    }

pub returns-in_err-attach_next-clause-asked : goal.returns-in_err-attach_next-clause-asked
returns-in_err-attach_next-clause-asked c want a = c.attach_next.ensures.asked want (c.loop-self.invariant.asked want a)
