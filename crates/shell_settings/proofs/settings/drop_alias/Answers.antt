use Rattle.std.proofs.Common.{ap}
use Rattle.shell_lang.specs.declared.fault.LangFault.TheVariants as language
use Rattle.shell_settings.specs.Settings.{is_no_alias, without_alias}
use Rattle.shell_settings.proofs.Settling.{altered, altered_not}
use Rattle.shell_settings.proofs.settings.drop_alias.Goals as goal

pub returns-in-Ok-clause-does : goal.returns-in-Ok-clause-does
returns-in-Ok-clause-does g c =
    altered (is_no_alias c.args.name.now) (language.NoName c.args.name.now) (without_alias c.args.name.now) c.args.state.now _ (g.W.Outside.told c.args.world.now) c.in-Ok.ensures.unknown (ap (λ x. record c.args.state.now { aliases = x }) c.in-Ok.ensures.ok)

pub returns-in-Err-clause-does : goal.returns-in-Err-clause-does
returns-in-Err-clause-does g c =
    altered_not (is_no_alias c.args.name.now) (language.NoName c.args.name.now) c.in-Err.fault (without_alias c.args.name.now) c.args.state.now _ (g.W.Outside.told c.args.world.now) (ap (λ x. record c.args.state.now { aliases = x }) c.in-Err.ensures.err) c.in-Err.ensures.unknown c.refuse.ensures
