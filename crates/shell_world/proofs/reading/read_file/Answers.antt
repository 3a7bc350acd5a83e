use Rattle.shell_world.proofs.Combining.{file_read}
use Rattle.shell_world.proofs.reading.read_file.Goals as goal

pub returns : goal.returns
returns g c = λ state. file_read c.args.limit c.args.name.now c.file.result state _ _ c.file.ensures
