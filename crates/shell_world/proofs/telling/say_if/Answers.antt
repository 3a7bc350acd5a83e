use Rattle.std.proofs.Common.{sym, subst}
use Rattle.shell_world.specs.declared.end.End.TheVariants as ends
use Rattle.shell_world.specs.Processes.{SaysIf}
use Rattle.shell_world.specs.Scenes.{at}
use Rattle.shell_world.specs.Written.{Performs}
use Rattle.shell_world.proofs.Performing.{went}
use Rattle.shell_world.proofs.telling.say_if.Goals as goal

pub returns-else-wanted : goal.returns-else-wanted
returns-else-wanted g c =
    let now = at c.args.state.now (g.W.Outside.told c.args.world.now) in
    subst (λ b. Performs (SaysIf b c.args.event) now ends.Went now) (sym c.if-wanted.false) (went now)
