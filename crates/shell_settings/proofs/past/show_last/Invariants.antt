use Rattle.std.proofs.Common.{◌+◌, ◌-◌}
use Rattle.std.specs.List.{range_with_len}
use Rattle.shell_lang.specs.Past.{line_of}
use Rattle.shell_world.proofs.Performing.{Completes}
use Rattle.shell_world.specs.Processes.{Each}
use Rattle.shell_world.specs.Scenes.{at, goes_along}
use Rattle.shell_settings.specs.Settings.{ShowsLast, ShowsLine}
use Rattle.shell_settings.proofs.past.show_last.Given as goal

-- what shows the lines that are left shows all of them
abbrev pub invariant-loop-place : goal.invariant-loop-place
invariant-loop-place g l =
    Completes (Each goes_along (λ n. ShowsLine n (line_of l.fn.state.past n)) (range_with_len (l.first + 1 + l.place) (l.shown - l.place))) (at l.fn.state (g.W.Outside.told l.world)) (ShowsLast l.fn.most l.fn.state.past) (at l.fn.state (g.W.Outside.told l.fn.world))
