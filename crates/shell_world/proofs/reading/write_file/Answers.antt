use Rattle.shell_world.proofs.Combining.{file_written}
use Rattle.shell_world.proofs.reading.write_file.Goals as goal

pub returns : goal.returns
returns g c = λ state. file_written c.args.name.now c.args.bytes.now c.store.result state _ _ c.store.ensures
