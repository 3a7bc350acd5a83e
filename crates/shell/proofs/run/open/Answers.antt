use Rattle.std.proofs.Common.{refl, subst, sym}
use Rattle.std.specs.Prelude.{option_copied}
use Rattle.shell_world.specs.Processes.{LacksMemory}
use Rattle.shell_world.specs.Scenes.{at, goes_along}
use Rattle.shell_world.specs.Written.{Performs}
use Rattle.shell_world.proofs.Performing.{became, led, left, over_said, right}
use Rattle.shell.specs.Sessions.{naming}
use Rattle.shell.proofs.run.open.Goals as goal

pub returns-in_default-clause-does : goal.returns-in_default-clause-does
returns-in_default-clause-does g c = left _ c.lack_memory.ensures

pub returns-in_default-clause-over : goal.returns-in_default-clause-over
returns-in_default-clause-over g c = over_said c.args.state.now _ _ refl c.lack_memory.ensures

pub returns-in_default-name_model-clause-does : goal.returns-in_default-name_model-clause-does
returns-in_default-name_model-clause-does g c =
    left _ (subst (λ s. Performs LacksMemory (at s (g.W.Outside.told c.args.world.now)) c.lack_memory-in_default-name_model.result (at c.name_model.new.state (g.W.Outside.told c.lack_memory-in_default-name_model.new.world))) c.in_default-name_model.ensures.err c.lack_memory-in_default-name_model.ensures)

pub returns-in_default-name_model-clause-over : goal.returns-in_default-name_model-clause-over
returns-in_default-name_model-clause-over g c = over_said c.name_model.new.state _ _ refl c.lack_memory-in_default-name_model.ensures

pub returns-clause-does : goal.returns-clause-does
returns-clause-does g c =
    right LacksMemory (led goes_along (λ t. refl) (became (naming (option_copied c.args.wanted.model)) c.args.state.now _ (g.W.Outside.told c.args.world.now) c.in-Ok-name_model.ensures.ok) refl (rw (sym c.in-Ok.ensures) c.start.ensures.does))
