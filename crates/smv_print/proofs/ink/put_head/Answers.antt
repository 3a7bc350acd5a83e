use Rattle.smv_print.proofs.Inks.{prints_head}
use Rattle.smv_print.proofs.ink.put_head.Goals as goal

pub returns : goal.returns
returns g c = prints_head _ _ _ c.args.name.now (c.put_name.ensures)
