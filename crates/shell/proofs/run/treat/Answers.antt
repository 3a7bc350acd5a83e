use Rattle.std.proofs.Common.{refl}
use Rattle.shell_world.specs.declared.end.End.TheVariants as ends
use Rattle.shell_world.proofs.Performing.{ended, over_said}
use Rattle.shell.proofs.Opening.{over_fails}
use Rattle.shell.proofs.run.treat.Goals as goal

pub returns-then-count-eq-LINES-clause-last : goal.returns-then-count-eq-LINES-clause-last
returns-then-count-eq-LINES-clause-last g c = λ k. over_said c.args.state.now _ _ refl c.end_saying.ensures

pub returns-in-Ok-End-clause-does : goal.returns-in-Ok-End-clause-does
returns-in-Ok-End-clause-does g c = rw (c.in-Ok-End.is, c.in-Ok-End.field-0-is) (ended ends.Quits _ (λ e. cc))

pub returns-in-Err-clause-last : goal.returns-in-Err-clause-last
returns-in-Err-clause-last g c = λ k. over_fails c.args.state.now c.in-Err.fault c.fail.ensures
