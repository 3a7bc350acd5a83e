use Rattle.std.proofs.Common.{refl, subst}
use Rattle.shell_world.specs.Processes.{LacksMemory}
use Rattle.shell_world.specs.Scenes.{at, goes_along}
use Rattle.shell_world.specs.Written.{Performs}
use Rattle.shell_world.proofs.Performing.{became, led, left, right}
use Rattle.shell.specs.Sessions.{remembered}
use Rattle.shell.proofs.input.do_recalled.Goals as goal

pub returns-in-Ok-clause-does : goal.returns-in-Ok-clause-does
returns-in-Ok-clause-does g c =
    right LacksMemory (led goes_along (λ t. refl) (became (remembered c.args.line.now) c.args.state.now _ (g.W.Outside.told c.args.world.now) c.in-Ok.ensures.ok) refl c.do_line.ensures.does)

pub returns-in-Err-clause-does : goal.returns-in-Err-clause-does
returns-in-Err-clause-does g c = left _ (subst (λ s. Performs LacksMemory (at s (g.W.Outside.told c.args.world.now)) c.lack_memory.result (at c.remember.new.state (g.W.Outside.told c.lack_memory.new.world))) c.in-Err.ensures.err c.lack_memory.ensures)
