use Rattle.smv_rules.proofs.Verdicts.{one_expression, one_formula, one_program}
use Rattle.smv_rules.proofs.laws.one_spelling.Goals as goal

pub returns-clause-expression : goal.returns-clause-expression
returns-clause-expression c = one_expression

pub returns-clause-formula : goal.returns-clause-formula
returns-clause-formula c = one_formula

pub returns-clause-program : goal.returns-clause-program
returns-clause-program c = one_program
