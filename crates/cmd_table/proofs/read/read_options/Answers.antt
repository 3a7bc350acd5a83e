use Rattle.cmd_table.proofs.Fits.{read-fits}
use Rattle.cmd_table.proofs.read.read_options.Goals as goal

pub returns-clause-fit : goal.returns-clause-fit
returns-clause-fit g c = read-fits _ c.as_slice-opts.ensures c.in_ok-given.ensures.right
