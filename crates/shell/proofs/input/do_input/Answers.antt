use Rattle.shell.proofs.Opening.{recalled_done, recalled_not}
use Rattle.shell.proofs.input.do_input.Goals as goal

pub returns-in-Ok-clause-does : goal.returns-in-Ok-clause-does
returns-in-Ok-clause-does g c = recalled_done c.args.line.now c.in-Ok.line c.args.state.now _ c.in-Ok.ensures c.do_recalled.ensures.does

pub returns-in-Err-clause-does : goal.returns-in-Err-clause-does
returns-in-Err-clause-does g c = recalled_not c.args.line.now c.in-Err.fault c.args.state.now _ c.in-Err.ensures c.refuse_line.ensures
