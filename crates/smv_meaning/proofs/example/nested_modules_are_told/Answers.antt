use Rattle.smv_meaning.proofs.NestedLemmas.{nested_told}
use Rattle.smv_meaning.proofs.example.nested_modules_are_told.Goals as goal

pub returns : goal.returns
returns c = nested_told
