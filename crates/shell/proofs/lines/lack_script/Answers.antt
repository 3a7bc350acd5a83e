use Rattle.shell_world.proofs.Performing.{went}
use Rattle.shell.proofs.lines.lack_script.Goals as goal

pub returns-in-NotThere : goal.returns-in-NotThere
returns-in-NotThere g c = rw (c.in-NotThere.is, c.if-script.true) (went _)
