use Rattle.std.proofs.Common.{sym}
use Rattle.shell_world.proofs.Performing.{went}
use Rattle.shell_settings.proofs.past.show_line.Goals as goal

pub returns-in-Some : goal.returns-in-Some
returns-in-Some g c = rw (sym c.in-Some.ensures) c.show_past.ensures

pub returns-in-None : goal.returns-in-None
returns-in-None g c = rw (sym c.in-None.ensures) (went _)
