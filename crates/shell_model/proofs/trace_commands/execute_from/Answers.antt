use Rattle.std.proofs.Common.{sym}
use Rattle.shell_world.proofs.Combining.{with_file, without_file}
use Rattle.shell_model.specs.TraceCommands.{ExecutesOnText}
use Rattle.shell_model.proofs.ModelLemmas.{within_limit}
use Rattle.shell_model.proofs.trace_commands.execute_from.Goals as goal

pub execute_on_text-requires : goal.execute_on_text-requires
execute_on_text-requires g c = rw c.as_slice.ensures (within_limit _ c.args.file.now c.in-Ok.text (c.in-Ok.ensures c.args.state.now))

pub returns-in-Ok : goal.returns-in-Ok
returns-in-Ok g c = with_file _ c.args.file.now (ExecutesOnText c.args.changes c.args.name.now) c.in-Ok.text (c.in-Ok.ensures c.args.state.now) (rw (sym c.as_slice.ensures) c.execute_on_text.ensures)

pub returns-in-Err : goal.returns-in-Err
returns-in-Err g c = without_file _ c.args.file.now (ExecutesOnText c.args.changes c.args.name.now) c.in-Err.fault (c.in-Err.ensures c.args.state.now) c.refuse_file.ensures
