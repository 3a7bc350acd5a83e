use Rattle.std.proofs.Common.{refl, sym}
use Rattle.shell_world.specs.declared.refusal.Refusal.TheVariants as refusal
use Rattle.shell_world.proofs.Combining.{lacked, lacked_not}
use Rattle.shell.proofs.echo.echo_given.Goals as goal

pub returns-in_default : goal.returns-in_default
returns-in_default g c = lacked _ refusal.NoMemory refl c.refuse.ensures

pub returns-in-Some : goal.returns-in-Some
returns-in-Some g c = lacked_not (rw (sym c.in-Some.ensures, sym c.in-Ok.ensures, sym c.as_slice.ensures) c.store_file.ensures)

pub returns-in-None : goal.returns-in-None
returns-in-None g c = lacked_not (rw (sym c.in-None.ensures, sym c.in-Ok.ensures, sym c.echo_side.ensures) c.say.ensures)
