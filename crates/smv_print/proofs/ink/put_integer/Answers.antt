use Rattle.std.proofs.Common.{sym}
use Rattle.smv_print.proofs.Inks.{integer_text, prints_bytes}
use Rattle.smv_print.proofs.ink.put_integer.Goals as goal

pub returns : goal.returns
returns g c = prints_bytes (sym (integer_text c.args.number.now)) c.put_integer.ensures
