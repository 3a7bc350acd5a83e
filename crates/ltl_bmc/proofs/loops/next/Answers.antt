use Rattle.ltl_bmc.proofs.Rowwise.{next_literals}
use Rattle.ltl_bmc.proofs.loops.next.Goals as goal

pub returns-clause-literals : goal.returns-clause-literals
returns-clause-literals c = next_literals c.shift.result c.args.part.now c.args.l c.get.result c.get.ensures c.shift.ensures.literals c.shift.ensures.last
