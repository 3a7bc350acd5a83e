use Rattle.smv_printing.proofs.Reparsed.{expression_reparsed, formula_reparsed}
use Rattle.smv_printing.proofs.again.same_when_printed.Goals as goal

pub returns-clause-expression : goal.returns-clause-expression
returns-clause-expression c = expression_reparsed

pub returns-clause-formula : goal.returns-clause-formula
returns-clause-formula c = formula_reparsed
