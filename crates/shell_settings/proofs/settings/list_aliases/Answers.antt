use Rattle.std.proofs.Common.{refl, arith}
use Rattle.shell_world.specs.Processes.{Each}
use Rattle.shell_world.specs.Scenes.{goes_along}
use Rattle.shell_world.proofs.Performing.{items_more, items_over, items_stop, known}
use Rattle.shell_settings.specs.Settings.{ShowsAlias}
use Rattle.shell_settings.proofs.settings.list_aliases.Goals as goal

pub returns-then-not-goes_along : goal.returns-then-not-goes_along
returns-then-not-goes_along g c =
    known (λ s. Each goes_along ShowsAlias s.aliases) (items_stop goes_along ShowsAlias c.loop-name.name-iterator c.next.new.self (c.in-Some.name.now, c.in-Some.words.now) c.in-Some.ensures.steps c.loop-name.invariant c.show_alias-end.ensures (grind arith))

pub loop-name-preserved : goal.loop-name-preserved
loop-name-preserved g c =
    items_more goes_along ShowsAlias c.loop-name.name-iterator c.next.new.self (c.in-Some.name.now, c.in-Some.words.now) (λ t. refl) c.in-Some.ensures.steps c.loop-name.invariant c.show_alias-end.ensures (grind arith)

pub returns : goal.returns
returns g c =
    known (λ s. Each goes_along ShowsAlias s.aliases) (items_over goes_along ShowsAlias c.loop-name.name-iterator c.in-None.ensures.steps.0 c.loop-name.invariant)
