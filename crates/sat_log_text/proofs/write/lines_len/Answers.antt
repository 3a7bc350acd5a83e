use Rattle.std.proofs.Common.{arith}
use Rattle.sat_log_text.proofs.TextLemmas.{length-lines_more}
use Rattle.sat_log_text.proofs.write.lines_len.Goals as goal

pub loop-i-preserved : goal.loop-i-preserved
loop-i-preserved c =
    omega (arith, length-lines_more c.args.lines.now c.loop-i.i c.index-lines-i.result (omega arith) c.index-lines-i.is)
