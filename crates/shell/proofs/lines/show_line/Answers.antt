use Rattle.std.proofs.Common.{refl, sym}
use Rattle.shell_world.specs.declared.refusal.Refusal.TheVariants as refusal
use Rattle.shell_world.proofs.Combining.{lacked, lacked_not}
use Rattle.shell_world.proofs.Performing.{went}
use Rattle.shell.proofs.lines.show_line.Goals as goal

pub returns-then-not-shows : goal.returns-then-not-shows
returns-then-not-shows g c = rw c.if-not-shows.true (went _)

pub returns-in-Ok : goal.returns-in-Ok
returns-in-Ok g c = rw (c.if-not-shows.false, sym c.in-Ok.ensures) (lacked_not c.say.ensures)

pub returns-in-Err : goal.returns-in-Err
returns-in-Err g c = rw c.if-not-shows.false (lacked _ refusal.NoMemory refl c.refuse.ensures)
