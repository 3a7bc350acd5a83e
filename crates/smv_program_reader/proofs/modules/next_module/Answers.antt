use Rattle.smv_rules.specs.Expressions.{optional}
use Rattle.smv_rules.specs.Sorts.{a_flag}
use Rattle.smv_formula_reader.proofs.Flags.{flagged_left}
use Rattle.smv_program_reader.proofs.modules.next_module.Goals as goal

pub one_module-requires : goal.one_module-requires
one_module-requires c = flagged_left _ _ a_flag (optional _) _ _ _ c.in_ok-begins.ensures c.requires
