-- Counted by cases.
use Rattle.smv_kinds.proofs.Lines.{one_line, two_line}
use Rattle.smv_kinds.proofs.operators.each_operator_has_one_line.Goals as goal

pub returns-clause-one : goal.returns-clause-one
returns-clause-one c = one_line

pub returns-clause-two : goal.returns-clause-two
returns-clause-two c = two_line
