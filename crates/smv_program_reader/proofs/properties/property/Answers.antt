use Rattle.smv_rules.specs.Expressions.{optional}
use Rattle.smv_rules.specs.Sorts.{a_flag}
use Rattle.smv_formula_reader.proofs.Flags.{flagged_left}
use Rattle.smv_program_reader.proofs.properties.property.Goals as goal

pub specified_by_name-requires : goal.specified_by_name-requires
specified_by_name-requires c = flagged_left _ _ a_flag (optional _) _ _ _ c.in_ok-named.ensures c.requires

pub specified-requires : goal.specified-requires
specified-requires c = flagged_left _ _ a_flag (optional _) _ _ _ c.in_ok-named.ensures c.requires
