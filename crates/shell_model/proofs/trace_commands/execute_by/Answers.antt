use Rattle.std.proofs.Common.{sym}
use Rattle.shell_model.proofs.trace_commands.execute_by.Goals as goal

pub returns : goal.returns
returns g c = rw (sym c.has_changes-changes.ensures, sym c.as_slice.ensures) c.execute_first.ensures
