use Rattle.shell_settings.proofs.Refusing.{settings_refused}
use Rattle.shell_settings.proofs.laws.refused_setting_changes_nothing.Goals as goal

pub returns : goal.returns
returns c = settings_refused
