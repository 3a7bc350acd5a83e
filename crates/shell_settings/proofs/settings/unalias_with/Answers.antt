use Rattle.shell_settings.specs.Settings.{DropsAlias}
use Rattle.shell_world.proofs.Combining.{with_none}
use Rattle.shell_settings.proofs.settings.unalias_with.Goals as goal

pub returns-in-empty-clause-does : goal.returns-in-empty-clause-does
returns-in-empty-clause-does g c = with_none DropsAlias c.args.words.now _ c.in-empty.len_below
