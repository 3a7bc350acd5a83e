use Rattle.std.proofs.Common.{subst}
use Rattle.shell_world.specs.Scenes.{at}
use Rattle.shell_world.specs.Written.{Performs}
use Rattle.shell_world.proofs.Performing.{known}
use Rattle.shell_settings.specs.Settings.{ShowsLast}
use Rattle.shell_settings.proofs.Settling.{shown_all}
use Rattle.shell_settings.proofs.past.show_with.Goals as goal

pub returns-in-empty : goal.returns-in-empty
returns-in-empty g c =
    let p = subst (λ n. Performs (ShowsLast n c.args.state.now.past) (at c.args.state.now (g.W.Outside.told c.args.world.now)) c.show_last.result (at c.args.state.now (g.W.Outside.told c.show_last.new.world))) c.count.ensures c.show_last.ensures in
    shown_all c.args.words.now c.in-empty.len_below (known (λ s. ShowsLast s.past.count s.past) p)
