use Rattle.std.proofs.Common.{◌∙◌, ap}
use Rattle.shell_model.specs.ModelCommands.{with_model}
use Rattle.shell_model.proofs.ModelLemmas.{model_kept, not_kept}
use Rattle.shell_model.proofs.model_commands.keep_read.Goals as goal

pub returns-in-Ok : goal.returns-in-Ok
returns-in-Ok g c =
    model_kept c.args.file.now c.args.model c.args.state.now _ (g.W.Outside.told c.args.world.now) (c.take_model.ensures ∙ ap (λ v. with_model c.args.model (record c.args.state.now { vars = v })) c.in-Ok.ensures.ok)

pub returns-in-Err : goal.returns-in-Err
returns-in-Err g c =
    not_kept c.args.file.now c.args.model c.args.state.now _ (g.W.Outside.told c.args.world.now) _ c.refuse.result (ap (λ v. record c.args.state.now { vars = v }) c.in-Err.ensures.err) c.refuse.ensures
