use Rattle.smv_print.proofs.SpelledAgain.{formula_again}
use Rattle.smv_print.proofs.formula_print.print_formula.Goals as goal

pub returns-clause-again : goal.returns-clause-again
returns-clause-again g c = formula_again _ _ _ _ c.put_formula.ensures.written
