use Rattle.std.proofs.Common.{refl, ap, ◌∙◌, subst}
use Rattle.shell_world.specs.declared.refusal.Refusal.TheVariants as refusal
use Rattle.shell_world.specs.Processes.{Refuses}
use Rattle.shell_world.specs.Scenes.{at}
use Rattle.shell_world.specs.Steps.{file_refusal}
use Rattle.shell_world.specs.Written.{Performs}
use Rattle.shell_world.proofs.Combining.{lacked, lacked_not}
use Rattle.shell_world.proofs.reading.refuse_file.Goals as goal

pub returns-in_default : goal.returns-in_default
returns-in_default g c = lacked _ refusal.NoMemory refl c.refuse.ensures

pub returns : goal.returns
returns g c =
    let e = c.file_refusal.ensures ∙ ap (λ n. file_refusal c.args.limit n c.args.fault) c.in-Ok.ensures in
    lacked_not (subst (λ r. Performs (Refuses r) (at c.args.state.now (g.W.Outside.told c.args.world.now)) c.refuse-2.result (at c.args.state.now (g.W.Outside.told c.refuse-2.new.world))) e c.refuse-2.ensures)
