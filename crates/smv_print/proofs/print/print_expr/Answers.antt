use Rattle.smv_print.proofs.SpelledAgain.{expression_again}
use Rattle.smv_print.proofs.print.print_expr.Goals as goal

pub returns-clause-again : goal.returns-clause-again
returns-clause-again g c = expression_again _ _ _ _ c.put_bare.ensures.written
