use Rattle.std.proofs.lemmas.Result.{err_from_is_err_and}
use Rattle.smv_rules.specs.Programs.{more_formals}
use Rattle.smv_rules.specs.Sorts.{some_formals}
use Rattle.smv_reader.proofs.Loops.{loop_fails}
use Rattle.smv_program_reader.proofs.parameters.more_formals.Goals as goal

pub returns-in_err-behind : goal.returns-in_err-behind
returns-in_err-behind c =
    let p = err_from_is_err_and c.from_residual-in_err-behind.result c.from_residual-in_err-behind.ensures.1 in
    rw (p.1, p.2) (loop_fails _ _ some_formals (more_formals _) _ _ c.in_err-behind.ensures c.formals.invariant)
