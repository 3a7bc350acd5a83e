use Rattle.smv_meaning.proofs.FirstCyclesOne.{told_module_is_one, told_definition_is_one}
use Rattle.smv_meaning.proofs.cycles.told_cycles_are_one.Goals as goal

pub returns-clause-definitions : goal.returns-clause-definitions
returns-clause-definitions c = told_definition_is_one

pub returns-clause-definition : goal.returns-clause-definition
returns-clause-definition c = λ program p xs f. (f.first, f.cycle.through.so)

pub returns-clause-modules : goal.returns-clause-modules
returns-clause-modules c = told_module_is_one

pub returns-clause-module : goal.returns-clause-module
returns-clause-module c = λ program p xs f. (f.first.name, f.cycle.through.so)
