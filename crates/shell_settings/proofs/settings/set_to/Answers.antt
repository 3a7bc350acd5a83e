use Rattle.std.proofs.Common.{ap}
use Rattle.shell_lang.specs.declared.fault.LangFault.TheVariants as language
use Rattle.shell_lang.specs.Known.{is_illegal}
use Rattle.shell_settings.specs.Settings.{with_value}
use Rattle.shell_settings.proofs.Settling.{altered, altered_not}
use Rattle.shell_settings.proofs.settings.set_to.Goals as goal

pub returns-in-Ok-clause-does : goal.returns-in-Ok-clause-does
returns-in-Ok-clause-does g c =
    altered (λ s. is_illegal c.args.name.now c.args.value.now) (language.BadValue c.args.name.now) (with_value c.args.name.now c.args.value.now) c.args.state.now _ (g.W.Outside.told c.args.world.now) c.in-Ok.ensures.illegal (ap (λ x. record c.args.state.now { vars = x }) c.in-Ok.ensures.ok)

pub returns-in-Err-clause-does : goal.returns-in-Err-clause-does
returns-in-Err-clause-does g c =
    altered_not (λ s. is_illegal c.args.name.now c.args.value.now) (language.BadValue c.args.name.now) c.in-Err.fault (with_value c.args.name.now c.args.value.now) c.args.state.now _ (g.W.Outside.told c.args.world.now) (ap (λ x. record c.args.state.now { vars = x }) c.in-Err.ensures.err) c.in-Err.ensures.illegal c.refuse.ensures
