use Rattle.smv_rules.specs.Expressions.{mark, name}
use Rattle.smv_rules.specs.Sorts.{a_name, a_place}
use Rattle.smv_formula_reader.proofs.Flags.{flagged_left}
use Rattle.smv_program_reader.proofs.properties.specified_by_name.Goals as goal

pub specified-requires : goal.specified-requires
specified-requires c = flagged_left _ _ a_place (mark _) _ _ _ c.in_ok-rest.ensures (flagged_left _ _ a_name name _ _ _ c.in_ok-name.ensures c.requires)
