use Rattle.std.proofs.Common.{sym}
use Rattle.shell_lang.specs.Keyed.{at_name}
use Rattle.shell_world.proofs.Performing.{known}
use Rattle.shell_settings.specs.Settings.{ShowsNamed}
use Rattle.shell_settings.proofs.settings.list_alias.Goals as goal

pub returns-in-Some : goal.returns-in-Some
returns-in-Some g c = known (λ s. ShowsNamed c.args.name.now (at_name s.aliases c.args.name.now)) (rw (sym c.in-Some.ensures) c.show_alias.ensures)

pub returns-in-None : goal.returns-in-None
returns-in-None g c = known (λ s. ShowsNamed c.args.name.now (at_name s.aliases c.args.name.now)) (rw (sym c.in-None.ensures) c.no_name.ensures)
