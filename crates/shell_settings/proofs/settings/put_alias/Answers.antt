use Rattle.std.proofs.Common.{ap}
use Rattle.shell_lang.specs.declared.fault.LangFault.TheVariants as language
use Rattle.shell_settings.specs.Settings.{has_no_place, with_alias}
use Rattle.shell_settings.proofs.Settling.{altered, altered_not}
use Rattle.shell_settings.proofs.settings.put_alias.Goals as goal

pub returns-in-Ok-clause-does : goal.returns-in-Ok-clause-does
returns-in-Ok-clause-does g c =
    altered (has_no_place c.args.name.now) language.TooManyAliases (with_alias c.args.name.now c.args.words.now) c.args.state.now _ (g.W.Outside.told c.args.world.now) c.in-Ok.ensures.full (ap (λ x. record c.args.state.now { aliases = x }) c.in-Ok.ensures.ok)

pub returns-in-Err-clause-does : goal.returns-in-Err-clause-does
returns-in-Err-clause-does g c =
    altered_not (has_no_place c.args.name.now) language.TooManyAliases c.in-Err.fault (with_alias c.args.name.now c.args.words.now) c.args.state.now _ (g.W.Outside.told c.args.world.now) (ap (λ x. record c.args.state.now { aliases = x }) c.in-Err.ensures.err) c.in-Err.ensures.full c.refuse.ensures
