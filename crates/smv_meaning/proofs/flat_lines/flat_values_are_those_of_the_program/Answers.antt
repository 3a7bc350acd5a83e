use Rattle.smv_meaning.proofs.FlatValues.{flat_values}
use Rattle.smv_meaning.proofs.flat_lines.flat_values_are_those_of_the_program.Goals as goal

pub returns : goal.returns
returns c = flat_values
