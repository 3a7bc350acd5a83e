use Rattle.std.proofs.Common.{refl, sym}
use Rattle.shell_world.specs.declared.refusal.Refusal.TheVariants as refusal
use Rattle.shell_world.specs.Processes.{Each, Where}
use Rattle.shell_world.specs.Scenes.{goes_along}
use Rattle.shell_world.proofs.Combining.{lacked, lacked_not}
use Rattle.shell_world.proofs.Performing.{here, some}
use Rattle.shell.specs.Rows.{AreListed}
use Rattle.shell.specs.Topics.{HelpsLine}
use Rattle.shell.proofs.topics.help_all.Goals as goal

pub returns-in-Ok : goal.returns-in-Ok
returns-in-Ok g c =
    lacked_not (some (λ words. Where (AreListed words) (Each goes_along HelpsLine words)) c.in-Ok.words.items (here c.in-Ok.ensures (rw (sym c.as_slice.ensures.value) c.help_words.ensures)))

pub returns-in-Err : goal.returns-in-Err
returns-in-Err g c = lacked _ refusal.NoMemory refl c.refuse.ensures
