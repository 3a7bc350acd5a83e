use Rattle.shell_world.proofs.Combining.{stored, stored_not}
use Rattle.shell_world.proofs.reading.store_file.Goals as goal

pub returns-in-Ok : goal.returns-in-Ok
returns-in-Ok g c = stored c.args.name.now c.args.bytes.now _ (c.in-Ok.ensures c.args.state.now)

pub returns-in-Err : goal.returns-in-Err
returns-in-Err g c = stored_not c.args.name.now c.args.bytes.now c.in-Err.fault (c.in-Err.ensures c.args.state.now) c.refuse_file.ensures
