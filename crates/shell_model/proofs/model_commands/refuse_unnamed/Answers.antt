use Rattle.std.proofs.Common.{refl, sym}
use Rattle.shell_world.specs.declared.refusal.Refusal.TheVariants as refusal
use Rattle.shell_world.proofs.Combining.{lacked, lacked_not}
use Rattle.shell_model.proofs.model_commands.refuse_unnamed.Goals as goal

pub returns-in-Ok : goal.returns-in-Ok
returns-in-Ok g c = lacked_not (rw (sym c.in-Ok.ensures) c.refuse.ensures)

pub returns-in-Err : goal.returns-in-Err
returns-in-Err g c = lacked _ refusal.NoMemory refl c.refuse-in-Err.ensures
