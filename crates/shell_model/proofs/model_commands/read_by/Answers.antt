use Rattle.std.proofs.Common.{refl, ◌∙◌}
use Rattle.shell_world.specs.declared.refusal.Refusal.TheVariants as refusal
use Rattle.shell_world.proofs.Combining.{lacked}
use Rattle.shell_model.specs.ModelCommands.{named_by}
use Rattle.shell_model.proofs.ModelLemmas.{by_named}
use Rattle.shell_model.proofs.model_commands.read_by.Goals as goal

pub returns-in-Ok : goal.returns-in-Ok
returns-in-Ok g c = by_named (named_by c.args.given.now) c.in-Ok.file (c.in-Ok.ensures ∙ c.named_file.ensures) c.read_named.ensures

pub returns-in-Err : goal.returns-in-Err
returns-in-Err g c = lacked _ refusal.NoMemory refl c.refuse.ensures
