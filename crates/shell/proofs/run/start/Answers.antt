use Rattle.std.proofs.Common.{true, false, arith}
use Rattle.shell_world.specs.declared.end.End.TheVariants as ends
use Rattle.shell_world.proofs.Performing.{ended}
use Rattle.shell.proofs.Opening.{started, started_not}
use Rattle.shell.proofs.run.start.Goals as goal

pub returns-then-not-goes_on-clause-does : goal.returns-then-not-goes_on-clause-does
returns-then-not-goes_on-clause-does g c = rw c.in-Some.is (started_not c.args.prompts _ c.do_script-end.ensures.does (grind arith))

pub returns-then-prompts-clause-does : goal.returns-then-prompts-clause-does
returns-then-prompts-clause-does g c =
    rw (c.in-Some.is, c.if-prompts.true) (started true _ c.do_script-end.ensures.does (grind arith) c.do_turns-then-prompts.ensures.does)

pub returns-clause-does : goal.returns-clause-does
returns-clause-does g c =
    rw (c.in-Some.is, c.if-prompts.false) (started false _ c.do_script-end.ensures.does (grind arith) (ended ends.Quits _ (λ e. cc)))
