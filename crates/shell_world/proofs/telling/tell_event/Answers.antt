use Rattle.shell_world.proofs.Performing.{said, said_not}
use Rattle.shell_world.proofs.telling.tell_event.Goals as goal

pub returns-in-Ok : goal.returns-in-Ok
returns-in-Ok g c = λ state. said c.args.event.now c.args.wanted state _ _ c.requires c.in-Ok.ensures

pub returns-in-Err : goal.returns-in-Err
returns-in-Err g c = λ state. said_not c.args.event.now c.args.wanted state _ _ _ c.in-Err.ensures
