use Rattle.std.proofs.lemmas.Result.{err_from_is_err_and}
use Rattle.smv_rules.specs.Programs.{defined}
use Rattle.smv_rules.specs.Sorts.{some_parts}
use Rattle.smv_reader.proofs.Loops.{loop_fails}
use Rattle.smv_program_reader.proofs.sections.definitions.Goals as goal

pub returns-in_err-behind : goal.returns-in_err-behind
returns-in_err-behind c =
    let p = err_from_is_err_and c.from_residual.result c.from_residual.ensures.1 in
    rw (p.1, p.2) (loop_fails _ _ some_parts (defined _) _ _ c.in_err-behind.ensures c.definitions.invariant)
