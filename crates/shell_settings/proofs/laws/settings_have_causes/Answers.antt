use Rattle.shell_settings.proofs.Refusing.{settings_caused}
use Rattle.shell_settings.proofs.laws.settings_have_causes.Goals as goal

pub returns : goal.returns
returns c = settings_caused
