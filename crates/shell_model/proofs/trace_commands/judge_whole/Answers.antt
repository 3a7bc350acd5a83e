use Rattle.std.proofs.Common.{refl}
use Rattle.shell_world.specs.declared.refusal.Refusal.TheVariants as refusal
use Rattle.shell_world.proofs.Combining.{lacked}
use Rattle.shell_model.proofs.TraceLemmas.{judged}
use Rattle.shell_model.proofs.trace_commands.judge_whole.Goals as goal

pub returns-in-Ok : goal.returns-in-Ok
returns-in-Ok g c = judged c.args.model.now c.args.text.now c.in-Ok.verdict c.in-Ok.ensures c.tell_verdict.ensures

pub returns-in-Err : goal.returns-in-Err
returns-in-Err g c = lacked _ refusal.NoMemory refl c.refuse.ensures
