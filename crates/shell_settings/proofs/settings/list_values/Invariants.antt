use Rattle.shell_world.proofs.Performing.{Completes}
use Rattle.shell_world.specs.Processes.{Each}
use Rattle.shell_world.specs.Scenes.{at, goes_along}
use Rattle.shell_settings.specs.Settings.{ShowsValue}
use Rattle.shell_settings.proofs.settings.list_values.Given as goal

-- what shows the entries that are left shows all of them
abbrev pub invariant-loop-name : goal.invariant-loop-name
invariant-loop-name g l =
    Completes (Each goes_along ShowsValue l.name-iterator) (at l.fn.state (g.W.Outside.told l.world)) (Each goes_along ShowsValue l.fn.state.vars) (at l.fn.state (g.W.Outside.told l.fn.world))
