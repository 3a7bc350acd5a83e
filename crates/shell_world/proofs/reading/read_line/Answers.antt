use Rattle.shell_world.proofs.Combining.{line_read}
use Rattle.shell_world.proofs.reading.read_line.Goals as goal

pub returns : goal.returns
returns g c = λ state. line_read c.args.limit c.line.result state _ _ c.line.ensures
