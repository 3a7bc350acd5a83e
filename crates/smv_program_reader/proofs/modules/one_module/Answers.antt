use Rattle.smv_rules.specs.Expressions.{name}
use Rattle.smv_rules.specs.Programs.{formals}
use Rattle.smv_rules.specs.Sorts.{a_name, some_formals}
use Rattle.smv_formula_reader.proofs.Flags.{flagged_left}
use Rattle.smv_program_reader.proofs.modules.one_module.Goals as goal

pub sections-requires : goal.sections-requires
sections-requires c = flagged_left _ _ some_formals formals _ _ _ c.in_ok-params.ensures (flagged_left _ _ a_name name _ _ _ c.in_ok-name.ensures c.requires)
