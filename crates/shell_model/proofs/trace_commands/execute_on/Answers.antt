use Rattle.std.proofs.Common.{◌∙◌, refl, sym}
use Rattle.shell_model.proofs.TraceLemmas.{executed, executed_not}
use Rattle.shell_model.proofs.trace_commands.execute_on.Goals as goal

pub returns-then-not-goes_along : goal.returns-then-not-goes_along
returns-then-not-goes_along g c = executed_not c.args.changes c.args.model c.args.name.now c.judge_file-end.ensures (sym c.goes_along.ensures ∙ c.if-not-goes_along.true)

pub returns : goal.returns
returns g c =
    executed c.args.changes c.args.model c.args.name.now c.args.state.now _ (g.W.Outside.told c.args.world.now) _ c.judge_file-end.result c.judge_file-end.ensures (sym c.goes_along.ensures ∙ c.if-not-goes_along.false) c.take_model.ensures
