use Rattle.std.proofs.Common.{arith}
use Rattle.sat_log_text.proofs.TextLemmas.{length-hints}
use Rattle.sat_log_text.proofs.write.hint_list_len.Goals as goal

pub returns : goal.returns
returns c = omega (arith, length-hints c.args.hints.now)
