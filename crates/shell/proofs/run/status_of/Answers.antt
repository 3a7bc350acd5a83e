use Rattle.shell.proofs.Opening.{status_over}
use Rattle.shell.proofs.run.status_of.Goals as goal

pub returns : goal.returns
returns c = rw (c.unwrap_or.ensures, c.status.ensures) (status_over c.args.end)
