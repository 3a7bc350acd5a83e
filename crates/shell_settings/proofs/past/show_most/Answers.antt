use Rattle.std.proofs.Common.{sym}
use Rattle.shell_world.proofs.Performing.{known}
use Rattle.shell_settings.specs.Settings.{ShowsLast}
use Rattle.shell_settings.proofs.past.show_most.Goals as goal

pub returns-in-Some : goal.returns-in-Some
returns-in-Some g c =
    rw (sym c.as_slice.ensures, sym c.in-Some.ensures) (known (λ s. ShowsLast c.in-Some.most s.past) c.show_last.ensures)
