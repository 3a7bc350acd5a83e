use Rattle.smv_meaning.proofs.Settling.{values_there, values_one}
use Rattle.smv_meaning.proofs.one_naming.each_expression_has_one_list_of_values.Goals as goal

pub returns : goal.returns
returns c = record { there = values_there; one = values_one }
