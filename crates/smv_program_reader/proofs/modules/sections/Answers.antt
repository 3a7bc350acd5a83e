use Rattle.std.proofs.Common.{◌∙◌}
use Rattle.std.proofs.lemmas.Result.{err_from_is_err_and}
use Rattle.smv_rules.specs.Programs.{more_sections}
use Rattle.smv_rules.specs.Sorts.{some_parts}
use Rattle.smv_formula_reader.proofs.Flags.{flagged_turn}
use Rattle.smv_reader.proofs.Loops.{loop_fails, loop_goes}
use Rattle.smv_program_reader.proofs.modules.sections.Goals as goal

pub returns-in_err-behind : goal.returns-in_err-behind
returns-in_err-behind c =
    let p = err_from_is_err_and c.from_residual.result c.from_residual.ensures.1 in
    rw (p.1, p.2) (loop_fails _ _ some_parts (more_sections _) _ _ c.in_err-behind.ensures c.sections.invariant.value)

pub sections-preserved : goal.sections-preserved
sections-preserved c =
    let e = rw c.in-Some.is at c.in_ok-behind.ensures in
    record {
      value = loop_goes _ some_parts _ _ _ _ _ _ e ∙ c.sections.invariant.value;
      flagged = flagged_turn _ _ some_parts _ _ _ _ _ _ e c.sections.invariant.flagged;
    }
